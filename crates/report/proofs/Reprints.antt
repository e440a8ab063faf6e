-- A statement that is reprinted.
use Rattle.std.proofs.Common.{◌≡◌, ℕ, min, List, ◌++◌, length, Ok, Err, Some, None, Result, OnOk, codes, decimal, option_to_list, refl, sym, ◌∙◌, subst, arith}
use Rattle.script.specs.declared.statement.Span.{Span}
use Rattle.script.specs.declared.statement.Statement.{Statement}
use Rattle.term.specs.declared.arena.Arena.{Arena}
use Rattle.term.specs.declared.faults.Full.{Full}
use Rattle.term.specs.State.{term, Empty, Allots}
use Rattle.grammar.specs.Text.{text}
use Rattle.syntax.specs.declared.scope.Scope.{Scope}
use Rattle.syntax.specs.declared.read.Sentence.{Sentence}
use Rattle.syntax.specs.declared.read.ReadFault.{ReadFault}
use Rattle.syntax.specs.Scopes.{entry_names}
use Rattle.syntax.specs.Reads.{ReadAs}
use Rattle.report.specs.declared.refusal.Refusal.{Refusal}
use Rattle.report.specs.declared.reprint.Reprint.{Reprint}
use Rattle.report.specs.Lines.{Appended, line, refusal_lines}
use Rattle.report.specs.Refusal.{of_reading}
use Rattle.report.specs.Told.{TellsOne}
use Rattle.report.specs.Reprint.{Cleared, Accepts, Reprints, ReprintsOne, reads, refuses, four_lines, fitting}
use Rattle.report.proofs.Texts.{then_more}

-- an empty arena, with its budget taken away
pub emptied : (a b : Arena) (r : Result (Unit {0}) Full) → Empty 8000 a → Allots a b 0 r → Cleared b
emptied a b (Ok u) e x = let n = e.none in let l = e.limit in let k = x.len in let m = x.kept.limit in record { none = omega arith; budget = x.made; room = omega arith }
emptied a b (Err f) e x = absurd (let n = e.none in let l = e.limit in let h = x.made.1 in omega arith)

-- the reprint once a statement is read or refused
abbrev pub after_reading : Reprint → Scope → Arena → Reprint
after_reading r scope arena = record { script = r.script; entries = r.entries; scope = scope; arena = arena; page = r.page }

module _ (was : Reprint) (arena : Arena) (st : Statement) where
  -- what the reading of the statement says
  abbrev pub Reads : List Span → Result Sentence ReadFault → Type 0
  Reads names r = let s = was.script.now in ReadAs s (min st.at (length s)) (entry_names s names) was.arena arena r

  one_read : (n : ℕ) (x : Sentence) (k : ℕ) (entered : List Span) → Reads was.entries.items (Ok x) → k ≡ 1000000 → entered ≡ was.entries.items ++ option_to_list st.name → ReprintsOne was.script.now was.entries.items n st (four_lines n None (fitting k (text (entry_names was.script.now was.entries.items) 0 (term arena x.term)))) entered
  one_read n x k entered read e f =
      let s = was.script.now in
      let es = was.entries.items in
      let t = text (entry_names s es) 0 (term arena x.term) in
      subst (λ y. ReprintsOne s es n st (four_lines n None (fitting k t)) y) (sym f)
      (subst (λ j. ReprintsOne s es n st (four_lines n None (fitting j t)) (es ++ option_to_list st.name)) (sym e) (reads read.next read.tokens read.reads))

module _ {E : Type 0} (was : Reprint) (scope : Scope) (arena : Arena) (n : ℕ) (st : Statement) {l₀ l₁ : List ℕ} (numbered : Appended l₀ (line (codes "statement=") (decimal n)) l₁) where
  pub accepted : (r : Result (Unit {0}) E) (names : List Span) (x : Sentence) (is : Reprint) (l₂ : List ℕ) → names ≡ was.entries.items → Reads was arena st names (Ok x) → OnOk r (Accepts (after_reading was scope arena) is x.term st.name l₁ l₂) → OnOk r (TellsOne Reprints was n st l₀ l₂ is)
  accepted (Err e) names x is l₂ same read accepts = tt
  accepted (Ok u) names x is l₂ same read a =
      let here = subst (λ y. Reads was arena st y (Ok x)) same read in
      record {
        text = _;
        told = λ ready.
            let cells : Cleared is.arena = (let p = ready.cells.budget in let q = ready.cells.room in let b = read.budget in let k = read.kept.limit in let m = a.arena.kept.limit in let e = a.arena.left in let f = a.arena.len in record { none = omega arith; budget = omega arith; room = omega arith }) in
            (record { cells = cells; page = a.page ∙ ready.page }, a.script, one_read was arena st n x _ _ here ready.page a.entries);
        put = then_more numbered a.told;
      }

  pub refused : (r : Result (Unit {0}) E) (names : List Span) (f : ReadFault) (refusal : Refusal) (l₂ l₃ : List ℕ) → names ≡ was.entries.items → Reads was arena st names (Err f) → refusal ≡ of_reading f → Appended l₁ (refusal_lines (codes "at=") (Some refusal)) l₂ → OnOk r (Appended l₂ (line (codes "term=") (codes "-")) l₃) → OnOk r (TellsOne Reprints was n st l₀ l₃ (after_reading was scope arena))
  refused (Err e) names f refusal l₂ l₃ same read is answered told = tt
  refused (Ok u) names f refusal l₂ l₃ same read is answered told =
      let here = subst (λ y. Reads was arena st y (Err f)) same read in
      record {
        text = four_lines n (Some refusal) (codes "-");
        told = λ ready.
            let cells : Cleared arena = (let p = ready.cells.none in let q = ready.cells.budget in let l = ready.cells.room in let k = read.same.kept.limit in let b = read.same.cells in let e = read.same.budget in record { none = omega arith; budget = omega arith; room = omega arith }) in (
              record { cells = cells; page = ready.page },
              refl,
              subst (λ y. ReprintsOne was.script.now was.entries.items n st (four_lines n (Some y) (codes "-")) was.entries.items) (sym is) (refuses f ready.cells here.why),
            );
        put = then_more numbered (then_more answered told);
      }
