-- The state of a book: what it was opened with, the place reached in its script, the entries that
-- stand, the pending verdict and the total cost of submits.
use Rattle.std.specs.Prelude.{ℕ, ◌+◌, ◌-◌, min, Bool, ◌||◌, List, [], ◌∷◌, ◌++◌, map, length, Some, None, Option, nat_le, nat_lt}
use Rattle.script.specs.declared.statement.Span.{Span}
use Rattle.script.specs.declared.statement.Statement.{Statement}
use Rattle.script.specs.declared.statement.StatementKind.{StatementKind}
use Rattle.script.specs.Names.{bytes_at}
use Rattle.script.specs.Statements.{head, statements_from}
use Rattle.term.specs.Term.{Term, cells}
use Rattle.term.specs.Layout.{cells_of}
use Rattle.rules.specs.Rules.{Entry}
use Rattle.grammar.specs.Grammar.{Name, Reading}
use Rattle.grammar.specs.Statements.{States}
use Rattle.syntax.specs.Reads.{statement_words}

-- an entry: the place and kind of its statement, its name, its type, and its value unless it is assumed
pub record Standing : Type 0 where
  pub at : ℕ
  pub kind : StatementKind
  pub name : Span
  pub type : Term
  pub value : Option Term

-- a verdict: the place and kind of its statement, the name that it enters if it is kept, its type and
-- perhaps a value, the numbers of the cells at which those are rooted, and its cost
pub record Verdict : Type 0 where
  pub at : ℕ
  pub kind : StatementKind
  pub name : Option Span
  pub type : Term
  pub value : Option Term
  pub type_root : ℕ
  pub value_root : Option ℕ
  pub cost : ℕ

-- what a book is opened with
pub record Opened : Type 0 where
  pub script : List ℕ
  pub cells : ℕ
  pub entries : ℕ

pub record State : Type 0 where
  pub opened : Opened
  pub at : ℕ
  pub standing : List Standing
  pub pending : Option Verdict
  pub total : ℕ

-- a new book
abbrev pub new : Opened → State
new o = record { opened = o; at = 0; standing = []; pending = None; total = 0 }

-- the entries as the rules take them, and their names as the grammar does
abbrev pub entries_of : List Standing → List Entry
entries_of [] = []
entries_of (e ∷ es) = record { type = e.type; value = e.value } ∷ entries_of es

abbrev pub names_of : List ℕ → List Standing → List Name
names_of script es = map (λ (e : Standing). bytes_at script e.name.at e.name.len) es

-- the statement that comes next in a script at a place
abbrev pub next_at : List ℕ → ℕ → Option Statement
next_at script at = head (statements_from script at)

-- that statement, its names read by the entries es, has this reading
abbrev pub ReadsAt : List ℕ → List Standing → ℕ → Statement → Reading → Type 0
ReadsAt script es at st r = States (names_of script es) st.end (statement_words script at) r

-- used cells are those of all kept and pending types and values
abbrev pub size : Term → Option Term → ℕ
size P v = cells P + cells_of v

abbrev pub sizes : List Standing → ℕ
sizes [] = 0
sizes (e ∷ es) = size e.type e.value + sizes es

abbrev pub pending_size : Option Verdict → ℕ
pending_size None = 0
pending_size (Some v) = size v.type v.value

abbrev pub used : State → ℕ
used b = sizes b.standing + pending_size b.pending

abbrev pub free : State → ℕ
free b = b.opened.cells - used b

-- scripts have at most 1,000,000 bytes, books 1 to 1,000,000 cells and 1 to 10,000 entries
abbrev pub outside : ℕ → ℕ → ℕ → Bool
outside low high n = nat_lt n low || nat_lt high n

abbrev pub unsized : Opened → Bool
unsized o = nat_lt 1000000 (length o.script) || (outside 1 1000000 o.cells || outside 1 10000 o.entries)

-- no further entry can stand
abbrev pub full : State → Bool
full b = nat_le b.opened.entries (length b.standing)

-- the state with one part put anew; the total is held at 10^12
abbrev pub reach : ℕ → State → State
reach p b = record { opened = b.opened; at = p; standing = b.standing; pending = b.pending; total = b.total }

abbrev pub pend : Option Verdict → State → State
pend v b = record { opened = b.opened; at = b.at; standing = b.standing; pending = v; total = b.total }

abbrev pub stand : List Standing → State → State
stand es b = record { opened = b.opened; at = b.at; standing = es; pending = b.pending; total = b.total }

abbrev pub charge : ℕ → State → State
charge n b = record { opened = b.opened; at = b.at; standing = b.standing; pending = b.pending; total = min (b.total + n) 1000000000000 }

-- a kept verdict is closed, and enters if it has a name to enter
abbrev pub entry_of : Verdict → Span → Standing
entry_of v x = record { at = v.at; kind = v.kind; name = x; type = v.type; value = v.value }

abbrev pub with_entry : Verdict → Option Span → List Standing → List Standing
with_entry v None es = es
with_entry v (Some x) es = es ++ (entry_of v x ∷ [])

abbrev pub enter : Verdict → State → State
enter v b = pend None (stand (with_entry v v.name b.standing) b)
