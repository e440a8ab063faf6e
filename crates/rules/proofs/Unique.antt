-- A judgement has at most one outcome within a budget.
use Rattle.std.proofs.Common.{◌≡◌, ℕ, ◌+◌, ◌<◌, List, Option, sym, refl, ap, ap₂, arith}
use Rattle.term.specs.Term.{Term}
use Rattle.rules.specs.declared.refusal.Refusal.{Refusal}
use Rattle.rules.specs.Rules.{Judgement, Entry}
use Rattle.rules.specs.Rules.{Premises}
use Rattle.rules.specs.Derivation.{System, Spot, Derives, rule_use, Chain, done, paid, told, proved, equal}
use Rattle.rules.specs.Derivation.{Refuses, no_rule, stop_rule_use, Halts, here, stop_paid, stop_told, none, stop_proved, fails, stop_equal, differs}
use Rattle.rules.specs.Derivation.{Exceeds, at_once, pass_rule_use, Passes, paying, pass_paid, pass_told, within, pass_proved, pass_equal}

module _ (S : System) (es : List Entry) where
  chain_at : {c c' : Premises} {t : Term} {v : Option Term} {n : ℕ} → c ≡ c' → Chain S es c t v n → Chain S es c' t v n
  chain_at e h = grind arith

  halts_at : {w : Spot} {c c' : Premises} {r : Refusal} {n : ℕ} → c ≡ c' → Halts S es w c r n → Halts S es w c' r n
  halts_at e h = grind arith

  passes_at : {c c' : Premises} {n : ℕ} → c ≡ c' → Passes S es c n → Passes S es c' n
  passes_at e h = grind arith

  mutual
    pub derives_unique : {j : Judgement} {t u : Term} {m n : ℕ} → Derives S es j t m → Derives S es j u n → (t ≡ u) × (m ≡ n)
    derives_unique (rule_use c e d) (rule_use c' e' d') =
        let r = chain_unique d (chain_at (cc) d') in
        (r.0, ap (λ k. 1 + k) r.2)

    pub chain_unique : {c : Premises} {t u : Term} {v w : Option Term} {m n : ℕ} → Chain S es c t v m → Chain S es c u w n → (t ≡ u) × (v ≡ w) × (m ≡ n)
    chain_unique done done = (refl, refl, refl)
    chain_unique (paid {m = a} d) (paid d') = grind (arith, chain_unique d d')
    chain_unique (told {k = k} e d) (told e' d') =
        chain_unique d (chain_at (cc) d')
    chain_unique (proved {k = k} p d) (proved p' d') =
        let a = derives_unique p p' in
        let r = chain_unique d (chain_at (ap k (sym a.0)) d') in
        (r.0, r.1, ap₂ (λ x y. x + y) a.1 r.2)
    chain_unique (equal e d) (equal e' d') = chain_unique d d'

  mutual
    pub not_refused : {j : Judgement} {t : Term} {r : Refusal} {m n : ℕ} → Derives S es j t m → Refuses S es j r n → ⊥
    not_refused (rule_use c e d) (no_rule e') = cc
    not_refused (rule_use c e d) (stop_rule_use c' e' d') = not_halted d (halts_at (cc) d')

    pub not_halted : {w : Spot} {c : Premises} {t : Term} {v : Option Term} {r : Refusal} {m n : ℕ} → Chain S es c t v m → Halts S es w c r n → ⊥
    not_halted done x = elim x [ ]
    not_halted (paid d) (stop_paid d') = not_halted d d'
    not_halted (told {k = k} e d) (stop_told e' d') = not_halted d (halts_at (cc) d')
    not_halted (told e d) (none e') = cc
    not_halted (proved {k = k} p d) (stop_proved p' d') = not_halted d (halts_at (ap k (derives_unique p' p).0) d')
    not_halted (proved p d) (fails d') = not_refused p d'
    not_halted (equal e d) (stop_equal e' d') = not_halted d d'
    not_halted (equal e d) (differs ne) = ne e

  mutual
    pub exceeds_less : {j : Judgement} {t : Term} {m b : ℕ} → Derives S es j t m → Exceeds S es j b → b < m
    exceeds_less (rule_use c e d) (at_once c' e') = omega arith
    exceeds_less (rule_use c e d) (pass_rule_use c' e' d') =
        let h = passes_less d (passes_at (cc) d') in omega arith

    pub passes_less : {c : Premises} {t : Term} {v : Option Term} {m b : ℕ} → Chain S es c t v m → Passes S es c b → b < m
    passes_less done x = elim x [ ]
    passes_less (paid d) (paying h) = omega arith
    passes_less (paid d) (pass_paid d') = grind (arith, passes_less d d')
    passes_less (told {k = k} e d) (pass_told e' d') = passes_less d (passes_at (cc) d')
    passes_less (proved p d) (within d') = let h = exceeds_less p d' in omega arith
    passes_less (proved {k = k} p d) (pass_proved p' d') =
        let a = derives_unique p' p in
        let h = passes_less d (passes_at (ap k a.0) d') in omega (arith, a.1)
    passes_less (equal e d) (pass_equal e' d') = passes_less d d'

  mutual
    pub refuses_unique : {j : Judgement} {r s : Refusal} {m n : ℕ} → Refuses S es j r m → Refuses S es j s n → (r ≡ s) × (m ≡ n)
    refuses_unique (no_rule e) (no_rule e') = (refl, refl)
    refuses_unique (no_rule e) (stop_rule_use c e' d) = cc
    refuses_unique (stop_rule_use c e d) (no_rule e') = cc
    refuses_unique (stop_rule_use c e d) (stop_rule_use c' e' d') =
        let a = halts_unique d (halts_at (cc) d') in
        (a.0, ap (λ k. 1 + k) a.1)

    pub halts_unique : {w : Spot} {c : Premises} {r s : Refusal} {m n : ℕ} → Halts S es w c r m → Halts S es w c s n → (r ≡ s) × (m ≡ n)
    halts_unique here here = (refl, refl)
    halts_unique (stop_paid {m = a} d) (stop_paid d') = grind (arith, halts_unique d d')
    halts_unique (stop_told {k = k} e d) (stop_told e' d') = halts_unique d (halts_at (cc) d')
    halts_unique (stop_told e d) (none e') = cc
    halts_unique (none e) (stop_told e' d) = cc
    halts_unique (none e) (none e') = (refl, refl)
    halts_unique (stop_proved {k = k} p d) (stop_proved p' d') =
        let a = derives_unique p p' in
        let x = halts_unique d (halts_at (ap k (sym a.0)) d') in
        (x.0, ap₂ (λ x y. x + y) a.1 x.1)
    halts_unique (stop_proved p d) (fails d') = absurd (not_refused p d')
    halts_unique (fails d) (stop_proved p d') = absurd (not_refused p d)
    halts_unique (fails d) (fails d') = refuses_unique d d'
    halts_unique (stop_equal e d) (stop_equal e' d') = halts_unique d d'
    halts_unique (stop_equal e d) (differs ne) = absurd (ne e)
    halts_unique (differs ne) (stop_equal e d) = absurd (ne e)
    halts_unique (differs ne) (differs ne') = (refl, refl)

  mutual
    pub refuses_less : {j : Judgement} {r : Refusal} {m b : ℕ} → Refuses S es j r m → Exceeds S es j b → b < m
    refuses_less (no_rule e) (at_once c e') = cc
    refuses_less (no_rule e) (pass_rule_use c e' d) = cc
    refuses_less (stop_rule_use c e d) (at_once c' e') = omega arith
    refuses_less (stop_rule_use c e d) (pass_rule_use c' e' d') =
        let h = halts_less d (passes_at (cc) d') in omega arith

    pub halts_less : {w : Spot} {c : Premises} {r : Refusal} {m b : ℕ} → Halts S es w c r m → Passes S es c b → b < m
    halts_less here x = elim x [ ]
    halts_less (stop_paid d) (paying h) = omega arith
    halts_less (stop_paid d) (pass_paid d') = grind (arith, halts_less d d')
    halts_less (stop_told {k = k} e d) (pass_told e' d') = halts_less d (passes_at (cc) d')
    halts_less (none e) (pass_told e' d) = cc
    halts_less (stop_proved p d) (within d') = grind (arith, exceeds_less)
    halts_less (stop_proved {k = k} p d) (pass_proved p' d') =
        let a = derives_unique p' p in
        let h = halts_less d (passes_at (ap k a.0) d') in omega (arith, a.1)
    halts_less (fails d) (within d') = refuses_less d d'
    halts_less (fails d) (pass_proved p d') = absurd (not_refused p d)
    halts_less (stop_equal e d) (pass_equal e' d') = halts_less d d'
    halts_less (differs ne) (pass_equal e d) = absurd (ne e)
