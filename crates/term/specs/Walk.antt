-- What the inner walks of the arena need and cost. No public contract cites this file.
use Rattle.std.specs.Prelude.{◌≡◌, ℕ, suc, ◌-◌, ◌<◌, cond, List, [], ◌∷◌, map, All, Some, None, Option, nat_le, refl}
use Rattle.std.proofs.Common.{arith, ap₂}
use Rattle.term.specs.declared.arena.Arena.{Arena}
use Rattle.term.specs.State.{cells_in, term, Kept}

-- each index is that of a cell
abbrev pub AllIn : Arena → List ℕ → Type 0
AllIn a is = All (λ i. i < cells_in a) is

-- it stays that of the same term, whatever cells are added
pub all_in_kept : {a b : Arena} (is : List ℕ) → Kept a b → AllIn a is → AllIn b is
all_in_kept is k h j d l = omega (arith, k.long, h j d l)

pub terms_kept : {a b : Arena} (is : List ℕ) → Kept a b → AllIn a is → map (term b) is ≡ map (term a) is
terms_kept [] k h = refl
terms_kept (i ∷ is) k h =
    ap₂ (λ t ts. t ∷ ts) (k.trees i (h 0 0 (omega arith)))
    (terms_kept is k (λ j d l. h (suc j) d (omega arith)))

-- what is left of a purse after a cost, or none where the cost is too high
abbrev pub rest : ℕ → ℕ → Option ℕ
rest purse cost = cond (nat_le cost purse) (Some (purse - cost)) None
