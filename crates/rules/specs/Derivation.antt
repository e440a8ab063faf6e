-- Derivations: finite trees of uses of the rules, and their cost; refusals; and passed budgets.
use Rattle.std.specs.Prelude.{◌≡◌, ℕ, ◌+◌, ◌<◌, List, Some, None, Option, ◌≢◌}
use Rattle.term.specs.Term.{Term, place, bare}
use Rattle.rules.specs.declared.refusal.Reason.{Reason}
use Rattle.rules.specs.declared.refusal.Reason.TheVariants.{NoRule, Unequal, NoSort}
use Rattle.rules.specs.declared.refusal.Layer.{Layer}
use Rattle.rules.specs.declared.refusal.Layer.TheVariants.{Typing, Normalising}
use Rattle.rules.specs.declared.refusal.Refusal.{Refusal}
use Rattle.rules.specs.Rules.{Judgement, has, meets, gives, Question, Entry, rule}
use Rattle.rules.specs.Rules.{Premises, conclude, refuse, pay, ask, premise, same}

-- a sort system means two partial functions, one for each kind of question
abbrev pub System : Type 0
System = Question → Option ℕ

-- where a refusal arises
pub record Spot : Type 0 where
  pub place : ℕ
  pub layer : Layer

-- at the term that is typed, or, in normalising, at the term whose form was asked for
abbrev pub spot : Judgement → Spot
spot (has Γ E) = record { place = place E; layer = Typing }
spot (meets Γ E S) = record { place = place E; layer = Typing }
spot (gives p Δ E) = record { place = p; layer = Normalising }

abbrev pub refusal : Reason → Spot → Refusal
refusal x w = record { reason = x; place = w.place; layer = w.layer }

module _ (S : System) (es : List Entry) where
  mutual
    -- a judgement has a derivation of this result at this cost: 1 for the use of its rule, and then
    -- what the premises cost
    pub data Derives : Judgement → Term → ℕ → Type 0 where
      rule_use : {j : Judgement} {t : Term} {v : Option Term} {n : ℕ} (c : Premises) → rule es j ≡ Some c → Chain c t v n → Derives j t (1 + n)

    pub data Chain : Premises → Term → Option Term → ℕ → Type 0 where
      done : {t : Term} {v : Option Term} → Chain (conclude t v) t v 0
      paid : {m : ℕ} {c : Premises} {t : Term} {v : Option Term} {n : ℕ} → Chain c t v n → Chain (pay m c) t v (m + n)
      told : {q : Question} {k : ℕ → Premises} {r : ℕ} {t : Term} {v : Option Term} {n : ℕ} → S q ≡ Some r → Chain (k r) t v n → Chain (ask q k) t v n
      proved : {j : Judgement} {k : Term → Premises} {u : Term} {m : ℕ} {t : Term} {v : Option Term} {n : ℕ} → Derives j u m → Chain (k u) t v n → Chain (premise j k) t v (m + n)
      equal : {a b : Term} {c : Premises} {t : Term} {v : Option Term} {n : ℕ} → bare a ≡ bare b → Chain c t v n → Chain (same a b c) t v n

  mutual
    -- a judgement is refused, with the cost counted by then
    pub data Refuses : Judgement → Refusal → ℕ → Type 0 where
      no_rule : {j : Judgement} → rule es j ≡ None → Refuses j (refusal NoRule (spot j)) 0
      stop_rule_use : {j : Judgement} {r : Refusal} {n : ℕ} (c : Premises) → rule es j ≡ Some c → Halts (spot j) c r n → Refuses j r (1 + n)

    -- a refusal of the premises' own lies at w
    pub data Halts : Spot → Premises → Refusal → ℕ → Type 0 where
      here : {w : Spot} {x : Reason} → Halts w (refuse x) (refusal x w) 0
      stop_paid : {w : Spot} {m : ℕ} {c : Premises} {r : Refusal} {n : ℕ} → Halts w c r n → Halts w (pay m c) r (m + n)
      stop_told : {w : Spot} {q : Question} {k : ℕ → Premises} {s : ℕ} {r : Refusal} {n : ℕ} → S q ≡ Some s → Halts w (k s) r n → Halts w (ask q k) r n
      none : {w : Spot} {q : Question} {k : ℕ → Premises} → S q ≡ None → Halts w (ask q k) (refusal NoSort w) 0
      stop_proved : {w : Spot} {j : Judgement} {k : Term → Premises} {u : Term} {m : ℕ} {r : Refusal} {n : ℕ} → Derives j u m → Halts w (k u) r n → Halts w (premise j k) r (m + n)
      fails : {w : Spot} {j : Judgement} {k : Term → Premises} {r : Refusal} {n : ℕ} → Refuses j r n → Halts w (premise j k) r n
      stop_equal : {w : Spot} {a b : Term} {c : Premises} {r : Refusal} {n : ℕ} → bare a ≡ bare b → Halts w c r n → Halts w (same a b c) r n
      differs : {w : Spot} {a b : Term} {c : Premises} → (bare a ≢ bare b) → Halts w (same a b c) (refusal Unequal w) 0

  mutual
    -- the count passes b before the judgement is derived or refused
    pub data Exceeds : Judgement → ℕ → Type 0 where
      at_once : {j : Judgement} (c : Premises) → rule es j ≡ Some c → Exceeds j 0
      pass_rule_use : {j : Judgement} {b : ℕ} (c : Premises) → rule es j ≡ Some c → Passes c b → Exceeds j (1 + b)

    pub data Passes : Premises → ℕ → Type 0 where
      paying : {m : ℕ} {c : Premises} {b : ℕ} → b < m → Passes (pay m c) b
      pass_paid : {m : ℕ} {c : Premises} {b : ℕ} → Passes c b → Passes (pay m c) (m + b)
      pass_told : {q : Question} {k : ℕ → Premises} {s : ℕ} {b : ℕ} → S q ≡ Some s → Passes (k s) b → Passes (ask q k) b
      within : {j : Judgement} {k : Term → Premises} {b : ℕ} → Exceeds j b → Passes (premise j k) b
      pass_proved : {j : Judgement} {k : Term → Premises} {u : Term} {m b : ℕ} → Derives j u m → Passes (k u) b → Passes (premise j k) (m + b)
      pass_equal : {a b : Term} {c : Premises} {n : ℕ} → bare a ≡ bare b → Passes c n → Passes (same a b c) n
