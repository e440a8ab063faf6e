-- The nearest record of a name. Records stand in the order in which they came.
use Rattle.std.specs.Prelude.{ℕ, ◌+◌, Bool, cond, List, [], ◌∷◌, take, drop, Some, None, Option}
use Rattle.std.specs.Str.{bytes_eq}

abbrev pub bytes_at : List ℕ → ℕ → ℕ → List ℕ
bytes_at s at n = take n (drop at s)

-- the name at a place is this one
abbrev pub named : List ℕ → List ℕ → ℕ → ℕ → Bool
named s name at n = bytes_eq (bytes_at s at n) name

-- the index of the last that passes, counted from i; `best` where none does
abbrev pub last_from : {X : Type 0} → (X → Bool) → ℕ → Option ℕ → List X → Option ℕ
last_from p i best [] = best
last_from p i best (x ∷ xs) = last_from p (i + 1) (cond (p x) (Some i) best) xs

abbrev pub nearest : {X : Type 0} → (X → Bool) → List X → Option ℕ
nearest p xs = last_from p 0 None xs
