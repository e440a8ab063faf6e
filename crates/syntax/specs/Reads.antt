-- The reading of a statement.
use Rattle.std.specs.Prelude.{◌≡◌, ℕ, ◌+◌, ◌*◌, ◌<◌, ◌≤◌, true, false, List, [], ◌∷◌, Some, None, Ok, Err, Option, Result}
use Rattle.script.specs.declared.statement.Span.{Span}
use Rattle.script.specs.declared.statement.Statement.{Statement}
use Rattle.script.specs.declared.statement.StatementKind.{StatementKind}
use Rattle.script.specs.Lexemes.{Lexeme}
use Rattle.script.specs.Faults as script
use Rattle.script.specs.Parts.{lexemes_from}
use Rattle.script.specs.Statements.{head, statements_from}
use Rattle.script.specs.Walk.{until}
use Rattle.term.specs.declared.arena.Arena.{Arena}
use Rattle.term.specs.State.{term, cells_in, Kept}
use Rattle.grammar.specs.Words.{Word, words}
use Rattle.grammar.specs.Grammar.{Name, here, expr, Steps, give, part, ending, tree, refusal}
use Rattle.grammar.specs.Statements.{statement, new_name, States}
use Rattle.syntax.specs.declared.ahead.Ahead.{Ahead}
use Rattle.syntax.specs.declared.fault.SyntaxFault.{SyntaxFault}
use Rattle.syntax.specs.declared.fault.SyntaxFault.TheVariants.{Misfit}
use Rattle.syntax.specs.declared.read.Sentence.{Sentence}
use Rattle.syntax.specs.declared.read.ReadFault.{ReadFault}
use Rattle.syntax.specs.declared.read.ReadFault.TheVariants.{Nothing, Tokens, NoRoom, Syntax}
use Rattle.syntax.specs.Faults as syntax
use Rattle.syntax.specs.Look.{left, is_nil}
use Rattle.syntax.specs.Parses.{Now, words_left, entries, end, Leads, Stopped, Parsed}

abbrev pub fault_number : ReadFault → ℕ
fault_number Nothing = 22
fault_number (Tokens f) = script.fault_number f
fault_number NoRoom = 23
fault_number (Syntax f) = syntax.fault_number f

abbrev pub fault_at : ReadFault → Option ℕ
fault_at Nothing = None
fault_at (Tokens f) = Some (script.fault_place f)
fault_at NoRoom = None
fault_at (Syntax f) = Some (syntax.fault_place f)

-- the lexemes of the first statement
abbrev pub own : List Lexeme → List Lexeme
own [] = []
own (l ∷ ls) = l ∷ until ls

-- the words of the statement that comes next at a place
abbrev pub statement_words : List ℕ → ℕ → List Word
statement_words s from = words s (own (lexemes_from s from))

-- the cells are as they were
pub record Unaltered (a b : Arena) : Type 0 where
  pub kept : Kept b a
  pub cells : cells_in b ≡ cells_in a
  pub budget : b.left ≡ a.left

-- the statement st comes next
abbrev pub Next : List ℕ → ℕ → Statement → Type 0
Next s from st = head (statements_from s from) ≡ Some st

-- read against the entries es: the statement has that tree, by the grammar
pub record ReadWell (s : List ℕ) (from : ℕ) (es : List Name) (a b : Arena) (x : Sentence) : Type 0 where
  pub next : Next s from x.statement
  pub tokens : script.token_check x.statement ≡ Ok tt
  pub room : cells_in a + a.left + 2 * x.statement.tokens ≤ a.limit
  pub kind : x.statement.kind ≡ Some x.kind
  pub reads : States es x.statement.end (statement_words s from) (tree (term b x.term) [])
  pub within : x.term < cells_in b
  pub kept : Kept a b
  pub budget : b.left ≡ a.left
  pub cells : cells_in b ≤ cells_in a + 2 * x.statement.tokens

-- or there is none, its tokens are refused, there is no room, or the grammar refuses it so
abbrev pub RefusedFor : List ℕ → ℕ → List Name → Arena → ReadFault → Type 0
RefusedFor s from es a Nothing = statements_from s from ≡ []
RefusedFor s from es a (Tokens f) = (st : Statement) × Next s from st × (script.token_check st ≡ Err f)
RefusedFor s from es a NoRoom =
    (st : Statement) × Next s from st × (script.token_check st ≡ Ok tt) × (a.limit < cells_in a + a.left + 2 * st.tokens)
RefusedFor s from es a (Syntax f) =
    (st : Statement) × Next s from st × (script.token_check st ≡ Ok tt) × (cells_in a + a.left + 2 * st.tokens ≤ a.limit)
    × States es st.end (statement_words s from) (refusal (syntax.fault_number f) (syntax.fault_place f))

pub record ReadIll (s : List ℕ) (from : ℕ) (es : List Name) (a b : Arena) (f : ReadFault) : Type 0 where
  pub why : RefusedFor s from es a f
  pub same : Unaltered a b

abbrev pub ReadAs : List ℕ → ℕ → List Name → Arena → Arena → Result Sentence ReadFault → Type 0
ReadAs s from es a b (Ok x) = ReadWell s from es a b x
ReadAs s from es a b (Err f) = ReadIll s from es a b f

-- what the inner functions do
abbrev pub whole_steps : List Name → Steps
whole_steps sc = part expr sc (λ E. ending (give E))

abbrev pub FinishesBy : Ahead → Result (Unit {0}) SyntaxFault → Type 0
FinishesBy r (Ok u) = is_nil (left r) ≡ true
FinishesBy r (Err e) = (is_nil (left r) ≡ false) × (e ≡ Misfit (here r.end (left r)))

pub record Finishes (r : Ahead) (t : Result (Unit {0}) SyntaxFault) : Type 0 where
  pub found : FinishesBy r t

abbrev pub NewNameFound : Now → Now → Result Span SyntaxFault → Type 0
NewNameFound x y (Ok n) = (q : Steps) → Leads 1 x y (new_name (entries x) (here (end x) (words_left x)) q) q
NewNameFound x y (Err e) = (q : Steps) → Stopped x y (new_name (entries x) (here (end x) (words_left x)) q) e

pub record NewName (x y : Now) (t : Result Span SyntaxFault) : Type 0 where
  pub found : NewNameFound x y t

abbrev pub ParsedStatement : StatementKind → Now → Now → Result ℕ SyntaxFault → Type 0
ParsedStatement kind x y t = Parsed 0 x y (statement kind (entries x) (here (end x) (words_left x))) t

-- where a statement was read, no word is left
abbrev pub Over : Ahead → Result ℕ SyntaxFault → Type 0
Over r (Ok i) = left r ≡ []
Over r (Err e) = Unit {0}

-- the tokens of a statement were read, or refused
abbrev pub TokensRead : List ℕ → ℕ → List Name → Arena → Arena → Statement → Result Sentence SyntaxFault → Type 0
TokensRead s from es a b st (Ok x) = ReadWell s from es a b x
TokensRead s from es a b st (Err e) =
    States es st.end (statement_words s from) (refusal (syntax.fault_number e) (syntax.fault_place e))
    × Kept a b × (b.left ≡ a.left)
