-- What the reader of a statement's lexemes counts, lexeme by lexeme.
use Rattle.std.specs.Prelude.{ℕ, ◌+◌, cond, List, [], ◌∷◌, length, None}
use Rattle.std.specs.Option.{option_or}
use Rattle.script.specs.Lexemes.{Lexeme}
use Rattle.script.specs.declared.statement.Tally.{Tally}
use Rattle.script.specs.Statements.{first_word, wrong_at}

abbrev pub none_yet : Tally
none_yet = record { tokens = 0; wrong = None }

abbrev pub one_more : Tally → Lexeme → Tally
one_more t l = record { tokens = t.tokens + 1; wrong = option_or t.wrong (wrong_at l) }

abbrev pub tally : Tally → List Lexeme → Tally
tally t [] = t
tally t (l ∷ ls) = tally (one_more t l) ls

-- the lexemes before the next first word, and those from it on
unfoldable pub until : List Lexeme → List Lexeme
until [] = []
until (l ∷ ls) = cond (first_word l) [] (l ∷ until ls)

unfoldable pub from_next : List Lexeme → List Lexeme
from_next [] = []
from_next (l ∷ ls) = cond (first_word l) (l ∷ ls) (from_next ls)

-- where the lexemes begin
abbrev pub begin_at : List ℕ → List Lexeme → ℕ
begin_at s [] = length s
begin_at s (l ∷ ls) = l.at
