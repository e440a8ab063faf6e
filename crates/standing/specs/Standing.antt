-- What a statement that is read has: every local bound, every entry there, low sorts, and where it
-- enters a name, a new one.
use Rattle.std.specs.Prelude.{◌≡◌, ℕ, ◌<◌, ◌≤◌, true, List, length, Some, None}
use Rattle.std.specs.List.{AllByRecursion}
use Rattle.script.specs.declared.statement.StatementKind.{StatementKind}
use Rattle.script.specs.declared.statement.Span.{Span}
use Rattle.script.specs.declared.statement.Statement.{Statement}
use Rattle.script.specs.Names.{bytes_at}
use Rattle.script.specs.Parts.{lexemes_from}
use Rattle.script.specs.Statements.{head, enters, statements_from}
use Rattle.term.specs.Term.{Term, sort, local, entry, unary, binary, choice, closed}
use Rattle.grammar.specs.Words.{Token, name, number, mark, first, no_token, Word, words}
use Rattle.grammar.specs.Grammar.{Name, find_entry, tree}
use Rattle.grammar.specs.Statements.{kind_of, States}
use Rattle.syntax.specs.Reads.{statement_words}
use Rattle.grammar.specs.Text.{GoodName}

-- sorts are numbered to 65,535 and entries are among the first m
abbrev pub Bounded : ℕ → Term → Type 0
Bounded m (sort p s) = s ≤ 65535
Bounded m (local p k) = Unit {0}
Bounded m (entry p j) = j < m
Bounded m (unary p u E) = Bounded m E
Bounded m (binary p b E F) = Bounded m E × Bounded m F
Bounded m (choice p E F G) = Bounded m E × Bounded m F × Bounded m G

-- if it is a number, it is at most 65,535
abbrev pub Low : Token → Type 0
Low (name x) = Unit {0}
Low (number n) = n ≤ 65535
Low (mark m) = Unit {0}
Low (first w) = Unit {0}
Low no_token = Unit {0}

abbrev pub AllLow : List Word → Type 0
AllLow = AllByRecursion (λ (w : Word). Low w.token)

-- no local of what is read points out of it
abbrev pub ReadClosed : Type 0
ReadClosed =
    (entries : List Name) (end : ℕ) (ws us : List Word) (t : Term)
    → States entries end ws (tree t us) → closed 0 t ≡ true

-- its entries are among those that there are, and its sorts are as low as the numbers
abbrev pub ReadBounded : Type 0
ReadBounded =
    (entries : List Name) (end : ℕ) (ws us : List Word) (t : Term)
    → AllLow ws → States entries end ws (tree t us) → Bounded (length entries) t

-- a script's numbers are low
abbrev pub LowNumbers : Type 0
LowNumbers = (s : List ℕ) (at : ℕ) → AllLow (words s (lexemes_from s at)) × AllLow (statement_words s at)

-- a statement's kind by its words is its kind
abbrev pub KindsAgree : Type 0
KindsAgree =
    (s : List ℕ) (at : ℕ) (st : Statement)
    → head (statements_from s at) ≡ Some st → kind_of (statement_words s at) ≡ st.kind

-- the statement enters a name that is not yet entered
pub record NewlyNamed (s : List ℕ) (entries : List Name) (st : Statement) : Type 0 where
  pub span : Span
  pub named : st.name ≡ Some span
  pub new : find_entry (bytes_at s span.at span.len) entries ≡ None
  pub good : GoodName (bytes_at s span.at span.len)

-- a def or an axiom that is read does
abbrev pub NamedStatements : Type 0
NamedStatements =
    (s : List ℕ) (at : ℕ) (st : Statement) (entries : List Name) (k : StatementKind) (t : Term) (us : List Word)
    → head (statements_from s at) ≡ Some st → st.kind ≡ Some k → enters (Some k) ≡ true
    → States entries st.end (statement_words s at) (tree t us) → NewlyNamed s entries st
