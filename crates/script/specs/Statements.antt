-- The statements of a list of lexemes.
use Rattle.std.specs.Prelude.{ℕ, Bool, true, false, cond, ◌&&◌, List, [], ◌∷◌, length, is_some, Some, None, Option, slice_index}
use Rattle.std.specs.Option.{option_or}
use Rattle.std.specs.Char.{is_ascii_alphabetic}
use Rattle.script.specs.declared.token.FirstWord.{FirstWord}
use Rattle.script.specs.declared.token.FirstWord.TheVariants.{DefWord, TheoremWord, LemmaWord, AxiomWord, ConstantWord, CheckWord, EvalWord}
use Rattle.script.specs.declared.token.Kind.{Kind}
use Rattle.script.specs.declared.token.Kind.TheVariants.{Name, Number, Fixed, First, NoToken}
use Rattle.script.specs.Lexemes.{Lexeme}
use Rattle.script.specs.declared.statement.StatementKind.{StatementKind}
use Rattle.script.specs.declared.statement.StatementKind.TheVariants.{Def, Axiom, Check, Eval}
use Rattle.script.specs.declared.statement.Span.{Span}
use Rattle.script.specs.declared.statement.Statement.{Statement}
use Rattle.script.specs.Parts.{lexemes_from}

-- the seven first words
abbrev pub kind_of_word : FirstWord → StatementKind
kind_of_word DefWord = Def
kind_of_word TheoremWord = Def
kind_of_word LemmaWord = Def
kind_of_word AxiomWord = Axiom
kind_of_word ConstantWord = Axiom
kind_of_word CheckWord = Check
kind_of_word EvalWord = Eval

abbrev pub statement_kind : Kind → Option StatementKind
statement_kind Name = None
statement_kind (Number n) = None
statement_kind (Fixed m) = None
statement_kind (First w) = Some (kind_of_word w)
statement_kind NoToken = None

abbrev pub first_word : Lexeme → Bool
first_word l = is_some (statement_kind l.kind)

-- a statement's lexemes
pub record Run : Type 0 where
  pub first : Lexeme
  pub rest : List Lexeme

abbrev pub all_of : Run → List Lexeme
all_of r = r.first ∷ r.rest

-- a lexeme before runs: a run of its own before a first word or the end, else part of the first run
abbrev pub ends_here : List Lexeme → Bool
ends_here [] = true
ends_here (l ∷ ls) = first_word l

abbrev pub onto : Lexeme → Bool → List Run → List Run
onto l true rs = record { first = l; rest = [] } ∷ rs
onto l false [] = record { first = l; rest = [] } ∷ []
onto l false (r ∷ rs) = record { first = l; rest = all_of r } ∷ rs

-- lexemes cut before each first word
abbrev pub runs : List Lexeme → List Run
runs [] = []
runs (l ∷ ls) = onto l (ends_here ls) (runs ls)

-- the place of the first lexeme that is no token
abbrev pub no_token : Kind → Bool
no_token Name = false
no_token (Number n) = false
no_token (Fixed m) = false
no_token (First w) = false
no_token NoToken = true

abbrev pub wrong_at : Lexeme → Option ℕ
wrong_at l = cond (no_token l.kind) (Some l.at) None

abbrev pub first_wrong : List Lexeme → Option ℕ
first_wrong [] = None
first_wrong (l ∷ ls) = option_or (wrong_at l) (first_wrong ls)

-- the name that a def or an axiom would enter: its second lexeme, if that is a name that begins with a letter
abbrev pub enters : Option StatementKind → Bool
enters None = false
enters (Some Def) = true
enters (Some Axiom) = true
enters (Some Check) = false
enters (Some Eval) = false

abbrev pub is_name : Kind → Bool
is_name Name = true
is_name (Number n) = false
is_name (Fixed m) = false
is_name (First w) = false
is_name NoToken = false

abbrev pub head : {X : Type 0} → List X → Option X
head [] = None
head (x ∷ xs) = Some x

abbrev pub span : Lexeme → Span
span l = record { at = l.at; len = l.len }

abbrev pub entered : List ℕ → Option StatementKind → Option Lexeme → Option Span
entered s k None = None
entered s k (Some l) =
    cond (enters k && (is_name l.kind && is_ascii_alphabetic (slice_index s l.at))) (Some (span l)) None

-- a statement by its run, in the script s, with the place of its end
abbrev pub summary : List ℕ → Run → ℕ → Statement
summary s r end =
    record {
      at = r.first.at;
      end = end;
      kind = statement_kind r.first.kind;
      name = entered s (statement_kind r.first.kind) (head r.rest);
      tokens = length (all_of r);
      wrong = first_wrong (all_of r);
    }

-- a statement ends where the next begins, or at the script's end
abbrev pub start_of : List ℕ → List Run → ℕ
start_of s [] = length s
start_of s (r ∷ rs) = r.first.at

abbrev pub summaries : List ℕ → List Run → List Statement
summaries s [] = []
summaries s (r ∷ rs) = summary s r (start_of s rs) ∷ summaries s rs

-- the statements from a place on
unfoldable pub statements_from : List ℕ → ℕ → List Statement
statements_from s at = summaries s (runs (lexemes_from s at))
