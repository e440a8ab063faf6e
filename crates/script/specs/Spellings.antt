-- A table of spellings as the specification has it.
use Rattle.std.specs.Prelude.{ℕ, List, map}
use denote.Ref.{Bor}
use Rattle.script.specs.declared.token.Kind.{Kind}

abbrev pub rows : List (Bor (List ℕ) × Kind) → List (List ℕ × Kind)
rows = map (λ r. (r.0.now, r.1))
