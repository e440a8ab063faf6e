-- What a reader has before it, and how it moves.
use Rattle.std.specs.Prelude.{◌≡◌, ℕ, ◌+◌, ◌<◌, ◌≤◌, List, [], ◌∷◌, length, Some, None, Option}
use Rattle.script.specs.Lexemes.{Part, Lexeme}
use Rattle.script.specs.declared.statement.Statement.{Statement}
use Rattle.script.specs.declared.statement.Tally.{Tally}
use Rattle.script.specs.declared.reader.Reader.{Reader}
use Rattle.script.specs.Parts.{parts_from, lexemes_from}
use Rattle.script.specs.Statements.{statements_from}
use Rattle.script.specs.Walk.{tally, until, from_next, begin_at}

abbrev pub script : Reader → List ℕ
script r = r.script.now

-- a reader went on over its script, which stays, and gave r
pub record Moves {R : Type 0} (how : List ℕ → ℕ → ℕ → R → Type 0) (old new : Reader) (r : R) : Type 0 where
  pub taken : how (script old) old.at new.at r
  pub script : script new ≡ script old

-- this part comes next at a place, or the script ends there
abbrev pub PartAhead : List ℕ → ℕ → Option Part → Type 0
PartAhead s at None = (parts_from s at ≡ []) × (at ≡ length s)
PartAhead s at (Some p) =
    (parts_from s at ≡ p ∷ parts_from s (at + p.len)) × (p.at ≡ at) × (0 < p.len) × (at + p.len ≤ length s)

-- and is passed
abbrev pub PartTaken : List ℕ → ℕ → ℕ → Option Part → Type 0
PartTaken s from to None = (parts_from s from ≡ []) × (from ≡ length s) × (to ≡ from)
PartTaken s from to (Some p) = (parts_from s from ≡ p ∷ parts_from s to) × (p.at ≡ from) × (to ≡ from + p.len) × (from < to)

-- this lexeme begins at a place, or the script ends there
abbrev pub LexemeAhead : List ℕ → ℕ → Option Lexeme → Type 0
LexemeAhead s at None = (lexemes_from s at ≡ []) × (at ≡ length s)
LexemeAhead s at (Some l) =
    (lexemes_from s at ≡ l ∷ lexemes_from s (at + l.len)) × (l.at ≡ at) × (0 < l.len) × (at + l.len ≤ length s)

-- the blanks and comments before the next lexeme are passed
pub record Sought (s : List ℕ) (from to : ℕ) (r : Option Lexeme) : Type 0 where
  pub same : lexemes_from s from ≡ lexemes_from s to
  pub forward : from ≤ to
  pub ahead : LexemeAhead s to r

-- the next lexeme is passed
abbrev pub LexemeTaken : List ℕ → ℕ → ℕ → Option Lexeme → Type 0
LexemeTaken s from to None = (lexemes_from s from ≡ []) × (to ≡ length s)
LexemeTaken s from to (Some l) =
    (lexemes_from s from ≡ l ∷ lexemes_from s to) × (to ≡ l.at + l.len) × (from ≤ l.at) × (0 < l.len)

-- the rest of a statement's lexemes is passed and counted
pub record Counted (t : Tally) (s : List ℕ) (from to : ℕ) (r : Tally) : Type 0 where
  pub count : r ≡ tally t (until (lexemes_from s from))
  pub left : lexemes_from s to ≡ from_next (lexemes_from s from)
  pub place : to ≡ begin_at s (lexemes_from s to)
  pub forward : from ≤ to

-- the next statement is passed
abbrev pub StatementTaken : List ℕ → ℕ → ℕ → Option Statement → Type 0
StatementTaken s from to None = (statements_from s from ≡ []) × (to ≡ length s)
StatementTaken s from to (Some st) = (statements_from s from ≡ st ∷ statements_from s to) × (to ≡ st.end) × (from < to)
