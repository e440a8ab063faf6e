-- The grammar's view of lexemes: a word is a token with its place, and a name has its bytes.
use Rattle.std.specs.Prelude.{ℕ, List, map}
use Rattle.script.specs.declared.token.Mark.{Mark}
use Rattle.script.specs.declared.token.FirstWord.{FirstWord}
use Rattle.script.specs.declared.token.Kind.{Kind}
use Rattle.script.specs.declared.token.Kind.TheVariants.{Name, Number, Fixed, First, NoToken}
use Rattle.script.specs.Lexemes.{Lexeme}
use Rattle.script.specs.Names.{bytes_at}

pub data Token : Type 0 where
  name : List ℕ → Token
  number : ℕ → Token
  mark : Mark → Token
  first : FirstWord → Token
  no_token : Token

pub record Word : Type 0 where
  pub token : Token
  pub at : ℕ

-- what a lexeme of this kind is, if it has these bytes
abbrev pub as_token : Kind → List ℕ → Token
as_token Name x = name x
as_token (Number n) x = number n
as_token (Fixed m) x = mark m
as_token (First w) x = first w
as_token NoToken x = no_token

-- a lexeme of the script s
abbrev pub word : List ℕ → Lexeme → Word
word s l = record { token = as_token l.kind (bytes_at s l.at l.len); at = l.at }

abbrev pub words : List ℕ → List Lexeme → List Word
words s = map (word s)
