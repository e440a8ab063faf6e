-- The parts of a script in their order: blanks, comments and lexemes.
use Rattle.std.specs.Prelude.{ℕ, zero, suc, pred, ◌-◌, Bool, ◌||◌, List, [], ◌∷◌, drop, Some, None, Option, ◌==◌, slice_index}
use Rattle.script.specs.declared.token.Kind.{Kind}
use Rattle.script.specs.declared.token.Piece.{Piece}
use Rattle.script.specs.Lexemes.{Part, Lexeme}
use Rattle.script.specs.Tokens.{piece}

abbrev pub placed : ℕ → Piece → Part
placed at p = record { kind = p.kind; at = at; len = p.len }

-- the parts of the bytes from a place on, the first k bytes passed over; fresh at a line's start
abbrev pub parts : ℕ → Bool → List ℕ → ℕ → List Part
parts k fresh [] at = []
parts zero fresh (b ∷ bs) at = placed at (piece fresh b bs) ∷ parts (pred (piece fresh b bs).len) (b == 10) bs (suc at)
parts (suc k) fresh (b ∷ bs) at = parts k (b == 10) bs (suc at)

-- a line starts at the script's start and after each LF
abbrev pub line_start : List ℕ → ℕ → Bool
line_start s at = at == 0 || slice_index s (at - 1) == 10

unfoldable pub parts_from : List ℕ → ℕ → List Part
parts_from s at = parts 0 (line_start s at) (drop at s) at

-- the lexemes among the parts
abbrev pub with_lexeme : Option Kind → ℕ → ℕ → List Lexeme → List Lexeme
with_lexeme None at n ls = ls
with_lexeme (Some k) at n ls = record { kind = k; at = at; len = n } ∷ ls

abbrev pub lexemes : List Part → List Lexeme
lexemes [] = []
lexemes (p ∷ ps) = with_lexeme p.kind p.at p.len (lexemes ps)

unfoldable pub lexemes_from : List ℕ → ℕ → List Lexeme
lexemes_from s at = lexemes (parts_from s at)
