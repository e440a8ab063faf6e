-- The outline of a script: seven lines for each statement.
use Rattle.std.specs.Prelude.{◌≡◌, ℕ, ◌+◌, cond, List, [], ◌∷◌, ◌++◌, length, Some, None, Ok, Err, codes, decimal, Option, Result, nat_lt}
use Rattle.script.specs.declared.statement.StatementKind.{StatementKind}
use Rattle.script.specs.declared.statement.StatementKind.TheVariants.{Def, Axiom, Check, Eval}
use Rattle.script.specs.declared.statement.Span.{Span}
use Rattle.script.specs.declared.statement.Statement.{Statement}
use Rattle.script.specs.declared.statement.ScriptFault.{ScriptFault}
use Rattle.script.specs.Faults.{fault_number, fault_place, token_check}
use Rattle.script.specs.Names.{bytes_at}
use Rattle.script.specs.Statements.{statements_from}
use Rattle.report.specs.declared.outline.Outline.{Outline}
use Rattle.report.specs.Lines.{line}

abbrev pub kind_text : Option StatementKind → List ℕ
kind_text None = codes "-"
kind_text (Some Def) = codes "def"
kind_text (Some Axiom) = codes "axiom"
kind_text (Some Check) = codes "check"
kind_text (Some Eval) = codes "eval"

abbrev pub name_text : List ℕ → Option Span → List ℕ
name_text s None = codes "-"
name_text s (Some x) = bytes_at s x.at x.len

abbrev pub answer_text : Result (Unit {0}) ScriptFault → List ℕ
answer_text (Ok u) = codes "0"
answer_text (Err f) = decimal (fault_number f)

abbrev pub place_text : Result (Unit {0}) ScriptFault → List ℕ
place_text (Ok u) = codes "-"
place_text (Err f) = decimal (fault_place f)

-- the number, place, kind and name of a statement, and its count of tokens
abbrev pub what_lines : ℕ → List ℕ → Statement → List ℕ
what_lines n s st =
    line (codes "statement=") (decimal n)
    ++ (line (codes "at=") (decimal st.at) ++ (line (codes "kind=") (kind_text st.kind) ++ (line (codes "name=") (name_text s st.name) ++ line (codes "tokens=") (decimal st.tokens))))

-- the refusal that its tokens meet, or 0
abbrev pub answer_lines : Statement → List ℕ
answer_lines st = line (codes "answer=") (answer_text (token_check st)) ++ line (codes "place=") (place_text (token_check st))

abbrev pub lines : ℕ → List ℕ → Statement → List ℕ
lines n s st = what_lines n s st ++ answer_lines st

-- the outline of one statement, after which the teller is for the same script
abbrev pub Outlines : Outline → ℕ → Statement → List ℕ → Outline → Type 0
Outlines o n st text p = (text ≡ lines n o.script.now st) × (p.script.now ≡ o.script.now)

abbrev pub all_lines : ℕ → List ℕ → List Statement → List ℕ
all_lines n s [] = []
all_lines n s (st ∷ sts) = lines n s st ++ all_lines (n + 1) s sts

-- a script of over 1,000,000 bytes has no statement told
unfoldable pub outline : List ℕ → List ℕ
outline s = cond (nat_lt 1000000 (length s)) (line (codes "answer=") (codes "13")) (all_lines 1 s (statements_from s 0))
