-- Lines of a key and a value.
use Rattle.std.specs.Prelude.{◌≡◌, ℕ, List, [], ◌∷◌, ◌++◌, Some, None, codes, decimal, Option}
use Rattle.report.specs.declared.lines.Lines.{Lines}
use Rattle.report.specs.declared.refusal.Refusal.{Refusal}

-- a text was put after what there was
pub record Appended (was text is : List ℕ) : Type 0 where
  pub whole : is ≡ was ++ text

-- a text was put after the lines
abbrev pub Adds : Lines → List ℕ → Lines → Type 0
Adds was text is = Appended was.bytes.items text is.bytes.items

-- a key, a value and the line's end
unfoldable pub line : List ℕ → List ℕ → List ℕ
line key value = key ++ (value ++ 10 ∷ [])

-- a place, or a dash where there is none
abbrev pub place_line : List ℕ → Option ℕ → List ℕ
place_line key None = line key (codes "-")
place_line key (Some at) = line key (decimal at)

-- the answer, and under the key its place
abbrev pub refusal_lines : List ℕ → Option Refusal → List ℕ
refusal_lines key None = line (codes "answer=") (codes "0") ++ place_line key None
refusal_lines key (Some r) = line (codes "answer=") (decimal r.number) ++ place_line key r.place
