-- The reprint of a script: four lines for each statement.
use Rattle.std.specs.Prelude.{◌≡◌, ℕ, ◌+◌, min, cond, List, [], ◌∷◌, ◌++◌, length, Some, None, Ok, Option, option_to_list, codes, decimal, nat_lt, vec_len}
use Rattle.script.specs.declared.statement.Span.{Span}
use Rattle.script.specs.declared.statement.Statement.{Statement}
use Rattle.script.specs.Faults.{token_check}
use Rattle.script.specs.Statements.{statements_from}
use Rattle.term.specs.declared.arena.Arena.{Arena}
use Rattle.term.specs.State.{term, cells_in, Rewound}
use Rattle.term.specs.Term.{Term}
use Rattle.grammar.specs.Grammar.{tree}
use Rattle.grammar.specs.Statements.{States}
use Rattle.grammar.specs.Text.{text}
use Rattle.syntax.specs.declared.read.ReadFault.{ReadFault}
use Rattle.syntax.specs.Scopes.{entry_names}
use Rattle.syntax.specs.Reads.{RefusedFor, Next, statement_words}
use Rattle.report.specs.declared.refusal.Refusal.{Refusal}
use Rattle.report.specs.declared.reprint.Reprint.{Reprint}
use Rattle.report.specs.Lines.{Appended, line, refusal_lines}
use Rattle.report.specs.Refusal.{of_reading}

-- a text, or a dash where it has more bytes than there is room for
abbrev pub fitting : ℕ → List ℕ → List ℕ
fitting room text = cond (nat_lt room (length text)) (codes "-") text

-- the number of a statement, the answer with its place, and a term
abbrev pub four_lines : ℕ → Option Refusal → List ℕ → List ℕ
four_lines n refusal term = line (codes "statement=") (decimal n) ++ (refusal_lines (codes "at=") refusal ++ line (codes "term=") term)

-- the cells as they are before each statement: none, but room for 8,000, and no budget
pub record Cleared (a : Arena) : Type 0 where
  pub none : cells_in a ≡ 0
  pub budget : a.left ≡ 0
  pub room : a.limit ≡ 8000

-- what is told of a statement, against the entries es, and the entries after it: the term that the
-- grammar reads from its words, or why there is none
pub data ReprintsOne (s : List ℕ) (es : List Span) (n : ℕ) (st : Statement) : List ℕ → List Span → Type 0 where
  reads : {x : Statement} {t : Term} → Next s (min st.at (length s)) x → token_check x ≡ Ok tt → States (entry_names s es) x.end (statement_words s (min st.at (length s))) (tree t []) → ReprintsOne s es n st (four_lines n None (fitting 1000000 (text (entry_names s es) 0 t))) (es ++ option_to_list st.name)
  refuses : {a : Arena} (f : ReadFault) → Cleared a → RefusedFor s (min st.at (length s)) (entry_names s es) a f → ReprintsOne s es n st (four_lines n (Some (of_reading f)) (codes "-")) es

-- what is told of the statements in turn, numbered from n on, against the entries es and those entered since
abbrev pub ReprintsFrom : List ℕ → List Span → ℕ → List Statement → List ℕ → Type 0
ReprintsFrom s es n [] text = text ≡ []
ReprintsFrom s es n (st ∷ sts) text =
    (here rest : List ℕ) × (entered : List Span) × ReprintsOne s es n st here entered × ReprintsFrom s entered (n + 1) sts rest × (text ≡ here ++ rest)

-- the reprint of a script, which begins with no entry
abbrev pub IsReprint : List ℕ → List ℕ → Type 0
IsReprint s text = ReprintsFrom s [] 1 (statements_from s 0) text

-- the memory that a statement is read and printed in
pub record Ready (r : Reprint) : Type 0 where
  pub cells : Cleared r.arena
  pub page : vec_len r.page ≡ 1000000

pub record Begins (s : List ℕ) (r : Reprint) : Type 0 where
  pub ready : Ready r
  pub script : r.script.now ≡ s
  pub entries : r.entries.items ≡ []

-- only the bytes of the page may differ
pub record SameButPage (was is : Reprint) : Type 0 where
  pub script : is.script.now ≡ was.script.now
  pub entries : is.entries.items ≡ was.entries.items
  pub arena : is.arena ≡ was.arena
  pub page : vec_len is.page ≡ vec_len was.page

-- the text of the tree at an index
abbrev pub text_at : Reprint → ℕ → List ℕ
text_at r id = text (entry_names r.script.now r.entries.items) 0 (term r.arena id)

-- the tree at an index was told, and the name entered
pub record Accepts (was is : Reprint) (id : ℕ) (name : Option Span) (lines lines' : List ℕ) : Type 0 where
  pub script : is.script.now ≡ was.script.now
  pub entries : is.entries.items ≡ was.entries.items ++ option_to_list name
  pub arena : Rewound was.arena is.arena 0
  pub page : vec_len is.page ≡ vec_len was.page
  pub told : Appended lines (refusal_lines (codes "at=") None ++ line (codes "term=") (fitting (vec_len was.page) (text_at was id))) lines'

-- what is told of one statement, if the memory is ready, which it is again afterwards
abbrev pub Reprints : Reprint → ℕ → Statement → List ℕ → Reprint → Type 0
Reprints r n st text after =
    Ready r → Ready after × (after.script.now ≡ r.script.now) × ReprintsOne r.script.now r.entries.items n st text after.entries.items
