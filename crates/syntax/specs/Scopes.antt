-- The names of open binders and of entries.
use Rattle.std.specs.Prelude.{ℕ, List, [], ◌∷◌, map}
use Rattle.script.specs.declared.statement.Span.{Span}
use Rattle.syntax.specs.Look.{span_bytes}

-- the binders as they were opened, put before others: the nearest comes first
abbrev pub opened_onto : List ℕ → List (List ℕ) → List Span → List (List ℕ)
opened_onto s acc [] = acc
opened_onto s acc (x ∷ xs) = opened_onto s (span_bytes s x ∷ acc) xs

unfoldable pub opened : List ℕ → List Span → List (List ℕ)
opened s xs = opened_onto s [] xs

abbrev pub entry_names : List ℕ → List Span → List (List ℕ)
entry_names s xs = map (span_bytes s) xs
