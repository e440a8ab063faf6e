-- What stays under a wider system.
use Rattle.std.proofs.Common.{◌≡◌, ℕ, List, Option, refl}
use Rattle.term.specs.Term.{Term}
use Rattle.rules.specs.declared.refusal.Reason.TheVariants.{NoSort}
use Rattle.rules.specs.declared.refusal.Refusal.{Refusal}
use Rattle.rules.specs.Rules.{Judgement, Entry}
use Rattle.rules.specs.Rules.{Premises}
use Rattle.rules.specs.Derivation.{System, Spot, Derives, rule_use, Chain, done, paid, told, proved, equal}
use Rattle.rules.specs.Derivation.{Refuses, no_rule, stop_rule_use, Halts, here, stop_paid, stop_told, none, stop_proved, fails, stop_equal, differs}
use Rattle.rules.specs.Derivation.{Exceeds, at_once, pass_rule_use, Passes, paying, pass_paid, pass_told, within, pass_proved, pass_equal}
use Rattle.rules.specs.Laws.{Wider}

-- where the second system answers alike wherever the first names a sort
module _ (S W : System) (wider : Wider S W) (es : List Entry) where
  mutual
    pub wider_derives : {j : Judgement} {t : Term} {n : ℕ} → Derives S es j t n → Derives W es j t n
    wider_derives (rule_use c e d) = rule_use c e (wider_chain d)

    pub wider_chain : {c : Premises} {t : Term} {v : Option Term} {n : ℕ} → Chain S es c t v n → Chain W es c t v n
    wider_chain done = done
    wider_chain (paid d) = paid (wider_chain d)
    wider_chain (told {q = q} {r = r} e d) = told (wider q r e) (wider_chain d)
    wider_chain (proved p d) = proved (wider_derives p) (wider_chain d)
    wider_chain (equal e d) = equal e (wider_chain d)

  mutual
    pub wider_exceeds : {j : Judgement} {b : ℕ} → Exceeds S es j b → Exceeds W es j b
    wider_exceeds (at_once c e) = at_once c e
    wider_exceeds (pass_rule_use c e d) = pass_rule_use c e (wider_passes d)

    pub wider_passes : {c : Premises} {b : ℕ} → Passes S es c b → Passes W es c b
    wider_passes (paying h) = paying h
    wider_passes (pass_paid d) = pass_paid (wider_passes d)
    wider_passes (pass_told {q = q} {s = s} e d) = pass_told (wider q s e) (wider_passes d)
    wider_passes (within d) = within (wider_exceeds d)
    wider_passes (pass_proved p d) = pass_proved (wider_derives p) (wider_passes d)
    wider_passes (pass_equal e d) = pass_equal e (wider_passes d)

  mutual
    pub wider_refuses : {j : Judgement} {r : Refusal} {n : ℕ} → Refuses S es j r n → (r.reason ≡ NoSort → ⊥) → Refuses W es j r n
    wider_refuses (no_rule e) h = no_rule e
    wider_refuses (stop_rule_use c e d) h = stop_rule_use c e (wider_halts d h)

    pub wider_halts : {w : Spot} {c : Premises} {r : Refusal} {n : ℕ} → Halts S es w c r n → (r.reason ≡ NoSort → ⊥) → Halts W es w c r n
    wider_halts here h = here
    wider_halts (stop_paid d) h = stop_paid (wider_halts d h)
    wider_halts (stop_told {q = q} {s = s} e d) h = stop_told (wider q s e) (wider_halts d h)
    wider_halts (none e) h = absurd (h refl)
    wider_halts (stop_proved p d) h = stop_proved (wider_derives p) (wider_halts d h)
    wider_halts (fails d) h = fails (wider_refuses d h)
    wider_halts (stop_equal e d) h = stop_equal e (wider_halts d h)
    wider_halts (differs ne) h = differs ne
