-- How what has come of a judgement is put together from what has come of its premises.
use Rattle.std.proofs.Common.{◌≡◌, ℕ, ◌+◌, ◌<◌, List, Some, None, Option, sym, subst, arith}
use Rattle.term.specs.Term.{Term, bare}
use Rattle.rules.specs.declared.refusal.Reason.{Reason}
use Rattle.rules.specs.declared.refusal.Reason.TheVariants.{NoRule, Unequal, NoSort}
use Rattle.rules.specs.declared.refusal.Refusal.{Refusal}
use Rattle.rules.specs.Rules.{Judgement, Question, Entry, Premises, conclude, refuse, pay, ask, premise, same, rule}
use Rattle.rules.specs.Derivation.{System, Spot, spot, refusal}
use Rattle.rules.specs.Derivation as d
use Rattle.normal.specs.Runs.{Outcome, Ends, Goes}

module _ {S : System} {es : List Entry} where
  -- the use of the rule is paid, and its premises were gone through
  pub by_rule : {j : Judgement} {c : Premises} {o : Outcome} {b m e : ℕ} → rule es j ≡ Some c → b ≡ 1 + m → Goes S es (spot j) c o m e → Ends S es j o b e
  by_rule q s (Goes.derived x a h) = Ends.derived (1 + x) (omega arith) (d.rule_use _ q h)
  by_rule q s (Goes.denied x a h) = Ends.denied (1 + x) (omega arith) (d.stop_rule_use _ q h)
  by_rule {j = j} q s (Goes.overran h) = Ends.overran (subst (λ n. d.Exceeds S es j n) (sym s) (d.pass_rule_use _ q h))

  pub broke : {j : Judgement} {c : Premises} {b e : ℕ} → rule es j ≡ Some c → b ≡ 0 → Ends S es j Outcome.spent b e
  broke {j = j} q s = Ends.overran (subst (λ n. d.Exceeds S es j n) (sym s) (d.at_once _ q))

  pub unruled : {j : Judgement} {b e : ℕ} → rule es j ≡ None → b ≡ e → Ends S es j (Outcome.refused (refusal NoRule (spot j))) b e
  unruled q s = Ends.denied 0 (omega arith) (d.no_rule q)

  module _ {w : Spot} where
    pub concluded : {t : Term} {v : Option Term} {b e : ℕ} → b ≡ e → Goes S es w (conclude t v) (Outcome.done t v) b e
    concluded s = Goes.derived 0 (omega arith) d.done

    pub refuses : {x : Reason} {b e : ℕ} → b ≡ e → Goes S es w (refuse x) (Outcome.refused (refusal x w)) b e
    refuses s = Goes.denied 0 (omega arith) d.here

    pub pays : {n : ℕ} {c : Premises} {o : Outcome} {b m e : ℕ} → b ≡ n + m → Goes S es w c o m e → Goes S es w (pay n c) o b e
    pays {n = n} s (Goes.derived x a h) = Goes.derived (n + x) (omega arith) (d.paid h)
    pays {n = n} s (Goes.denied x a h) = Goes.denied (n + x) (omega arith) (d.stop_paid h)
    pays {n = n} {c = c} s (Goes.overran h) = Goes.overran (subst (λ k. d.Passes S es (pay n c) k) (sym s) (d.pass_paid h))

    pub short : {n : ℕ} {c : Premises} {b e : ℕ} → b < n → Goes S es w (pay n c) Outcome.spent b e
    short s = Goes.overran (d.paying s)

    pub held : {j : Judgement} {k : Term → Premises} {t : Term} {v : Option Term} {o : Outcome} {b m e : ℕ} → Ends S es j (Outcome.done t v) b m → Goes S es w (k t) o m e → Goes S es w (premise j k) o b e
    held (Ends.derived x s p) (Goes.derived y a h) = Goes.derived (x + y) (omega arith) (d.proved p h)
    held (Ends.derived x s p) (Goes.denied y a h) = Goes.denied (x + y) (omega arith) (d.stop_proved p h)
    held {j = j} {k = k} (Ends.derived x s p) (Goes.overran h) = Goes.overran (subst (λ n. d.Passes S es (premise j k) n) (sym s) (d.pass_proved p h))

    pub stopped : {j : Judgement} {k : Term → Premises} {f : Refusal} {b e : ℕ} → Ends S es j (Outcome.refused f) b e → Goes S es w (premise j k) (Outcome.refused f) b e
    stopped (Ends.denied x a p) = Goes.denied x a (d.fails p)

    pub ran_out : {j : Judgement} {k : Term → Premises} {b e : ℕ} → Ends S es j Outcome.spent b e → Goes S es w (premise j k) Outcome.spent b e
    ran_out (Ends.overran p) = Goes.overran (d.within p)

    pub told : {q : Question} {k : ℕ → Premises} {r : ℕ} {o : Outcome} {b e : ℕ} → S q ≡ Some r → Goes S es w (k r) o b e → Goes S es w (ask q k) o b e
    told p (Goes.derived x a h) = Goes.derived x a (d.told p h)
    told p (Goes.denied x a h) = Goes.denied x a (d.stop_told p h)
    told p (Goes.overran h) = Goes.overran (d.pass_told p h)

    pub untold : {q : Question} {k : ℕ → Premises} {b e : ℕ} → S q ≡ None → b ≡ e → Goes S es w (ask q k) (Outcome.refused (refusal NoSort w)) b e
    untold p s = Goes.denied 0 (omega arith) (d.none p)

    pub alike : {t u : Term} {c : Premises} {o : Outcome} {b e : ℕ} → bare t ≡ bare u → Goes S es w c o b e → Goes S es w (same t u c) o b e
    alike p (Goes.derived x a h) = Goes.derived x a (d.equal p h)
    alike p (Goes.denied x a h) = Goes.denied x a (d.stop_equal p h)
    alike p (Goes.overran h) = Goes.overran (d.pass_equal p h)

    pub unlike : {t u : Term} {c : Premises} {b e : ℕ} → (bare t ≡ bare u → ⊥) → b ≡ e → Goes S es w (same t u c) (Outcome.refused (refusal Unequal w)) b e
    unlike p s = Goes.denied 0 (omega arith) (d.differs p)
