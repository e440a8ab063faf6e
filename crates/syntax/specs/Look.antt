-- The words that are left of a statement.
use Rattle.std.specs.Prelude.{◌≡◌, ℕ, Bool, true, false, cond, List, [], ◌∷◌, is_some, Some, None, Option, MatchOption}
use Rattle.script.specs.declared.statement.Span.{Span}
use Rattle.script.specs.Lexemes.{Lexeme}
use Rattle.script.specs.Names.{bytes_at}
use Rattle.script.specs.Parts.{lexemes_from}
use Rattle.script.specs.View.{script}
use Rattle.script.specs.Walk.{until}
use Rattle.grammar.specs.Words.{Word, words}
use Rattle.grammar.specs.Grammar.{past}
use Rattle.syntax.specs.declared.ahead.Ahead.{Ahead}

abbrev pub text : Ahead → List ℕ
text a = script a.reader

-- the lexeme before the reader, and those after it
abbrev pub coming : Option Lexeme → List Lexeme → List Lexeme
coming None ls = []
coming (Some l) ls = l ∷ ls

abbrev pub lexemes_left : Ahead → List Lexeme
lexemes_left a = coming a.next (until (lexemes_from (script a.reader) a.reader.at))

abbrev pub left : Ahead → List Word
left a = words (script a.reader) (lexemes_left a)

abbrev pub span_bytes : List ℕ → Span → List ℕ
span_bytes s x = bytes_at s x.at x.len

abbrev pub name_bytes : List ℕ → Option Span → Option (List ℕ)
name_bytes s None = None
name_bytes s (Some x) = Some (span_bytes s x)

abbrev pub is_nil : {X : Type 0} → List X → Bool
is_nil [] = true
is_nil (x ∷ xs) = false

-- a value is looked for in the next word, which is passed if it is there
pub record Looks {V : Type 0} (P : Option V → Type 0) (r r' : Ahead) (o : Option V) : Type 0 where
  pub same : text r' ≡ text r
  pub end : r'.end ≡ r.end
  pub found : P o
  pub rest : left r' ≡ cond (is_some o) (past (left r)) (left r)

-- what is picked of the next lexeme
abbrev pub Takes : {V : Type 0} → (Lexeme → Option V → Type 0) → Ahead → Ahead → Option V → Type 0
Takes P r r' o = Looks (λ v. MatchOption r.next (v ≡ None) (λ l. P l v)) r r' o
