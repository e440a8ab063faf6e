-- Whether two terms are the same can be decided.
use Rattle.std.proofs.Common.{◌≡◌, ℕ, ap, arith}
use native.Mathlib.Decide.{ℕ_discrete}
use Rattle.term.specs.declared.node.Unary.{Unary}
use Rattle.term.specs.declared.node.Binary.{Binary}
use Rattle.term.specs.Forms.{code, code_two}
use Rattle.term.specs.Term.{Term, TermDiscrete}

pub unary_same : (x y : Unary) → code x ≡ code y → x ≡ y
unary_same x y e = grind arith

pub binary_same : (x y : Binary) → code_two x ≡ code_two y → x ≡ y
binary_same x y e = grind arith

-- forms of the same number are the same
by_code : {A : Type 0} (f : A → ℕ) → ((x y : A) → f x ≡ f y → x ≡ y) → (x y : A) → Dec (f x ≡ f y) → Dec (x ≡ y)
by_code f h x y (yes e) = yes (h x y e)
by_code f h x y (no e) = no (λ p. e (ap f p))

pub same_term : (a b : Term) → Dec (a ≡ b)
same_term =
    TermDiscrete ℕ_discrete
    (λ x y. by_code code unary_same x y (ℕ_discrete (code x) (code y)))
    (λ x y. by_code code_two binary_same x y (ℕ_discrete (code_two x) (code_two y)))
