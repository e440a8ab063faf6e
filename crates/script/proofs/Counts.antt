-- The reader of statements, lexeme by lexeme.
use Rattle.std.proofs.Common.{◌≡◌, ℕ, ◌+◌, ◌≤◌, true, false, List, [], ◌∷◌, length, Some, None, Option, MatchOption, sym, refl, ap, ◌∙◌, subst, ap₂, arith}
use Rattle.std.proofs.lemmas.List.{at_drop_all}
use Rattle.script.specs.Lexemes.{Lexeme}
use Rattle.script.specs.declared.reader.Reader.{Reader}
use Rattle.script.specs.declared.statement.Span.{Span}
use Rattle.script.specs.declared.statement.StatementKind.{StatementKind}
use Rattle.script.specs.declared.statement.Tally.{Tally}
use Rattle.script.specs.declared.statement.Statement.{Statement}
use Rattle.script.specs.Parts.{parts, line_start, parts_from, lexemes, lexemes_from}
use Rattle.script.specs.Statements.{statement_kind, first_word, runs, first_wrong, head, entered, summary, summaries, start_of, statements_from}
use Rattle.script.specs.Walk.{none_yet, one_more, tally, until, from_next, begin_at}
use Rattle.script.specs.View.{script, Moves, LexemeAhead, Sought, LexemeTaken, Counted, StatementTaken}
use Rattle.script.proofs.Runs.{until_first, until_more, from_first, from_more, runs_first, runs_start, tally_of, named_until}

-- how far the count has come, over a script that is still the same
pub record Counting (t₀ : Tally) (old new : Reader) (t : Tally) : Type 0 where
  pub count : tally t (until (lexemes_from (script old) new.at)) ≡ tally t₀ (until (lexemes_from (script old) old.at))
  pub left : from_next (lexemes_from (script old) new.at) ≡ from_next (lexemes_from (script old) old.at)
  pub forward : old.at ≤ new.at
  pub few : t.tokens ≤ new.at
  pub script : script new ≡ script old

module _ {t₀ : Tally} {old new next : Reader} {t : Tally} (h : Counting t₀ old new t) where
  -- what comes next, in the script as it was
  ahead : {r : Option Lexeme} → Moves Sought new next r → Sought (script old) new.at next.at r
  ahead {r} k = subst (λ s. Sought s new.at next.at r) h.script k.taken

  pub goes_on : {on : Reader} {l : Lexeme} {u : Tally} → Moves Sought new next (Some l) → first_word l ≡ false → u ≡ one_more t l → script on ≡ script next → on.at ≡ next.at + l.len → Counting t₀ old on u
  goes_on {on} {l} {u} k f w es ea =
      let ls : lexemes_from (script old) new.at ≡ l ∷ lexemes_from (script old) on.at = (ahead k).same ∙ (ahead k).ahead.0 ∙ ap (λ n. l ∷ lexemes_from (script old) n) (sym ea) in
      record {
        count =
            ap (λ v. tally v (until (lexemes_from (script old) on.at))) w
            ∙ sym (ap (tally t) (ap until ls ∙ until_more l (lexemes_from (script old) on.at) f)) ∙ h.count;
        left = sym (ap from_next ls ∙ from_more l (lexemes_from (script old) on.at) f) ∙ h.left;
        forward = omega (arith, h.forward, k.taken.forward, ea);
        few = omega (arith, ap (λ (v : Tally). v.tokens) w, h.few, k.taken.forward, k.taken.ahead.2, ea);
        script = es ∙ k.script ∙ h.script;
      }

  stops : {r : Option Lexeme} → Moves Sought new next r → until (lexemes_from (script old) next.at) ≡ [] → from_next (lexemes_from (script old) next.at) ≡ lexemes_from (script old) next.at → next.at ≡ begin_at (script old) (lexemes_from (script old) next.at) → Moves (Counted t₀) old next t
  stops k u n b =
      record {
        taken =
            record {
              count = sym (ap (tally t) (ap until (ahead k).same ∙ u)) ∙ h.count;
              left = sym n ∙ sym (ap from_next (ahead k).same) ∙ h.left;
              place = b;
              forward = omega (arith, h.forward, k.taken.forward);
            };
        script = k.script ∙ h.script;
      }

  pub stops_end : Moves Sought new next None → Moves (Counted t₀) old next t
  unfolding until from_next
  stops_end k = let e = (ahead k).ahead.0 in stops k (ap until e) (ap from_next e ∙ sym e) ((ahead k).ahead.1 ∙ sym (ap (begin_at (script old)) e))

  pub stops_first : {l : Lexeme} → Moves Sought new next (Some l) → first_word l ≡ true → Moves (Counted t₀) old next t
  stops_first {l} k f =
      let e = (ahead k).ahead.0 in
      stops k (ap until e ∙ until_first l _ f) (ap from_next e ∙ from_first l _ f ∙ sym e) (sym (ahead k).ahead.1 ∙ sym (ap (begin_at (script old)) e))

ahead_head : (s : List ℕ) (at : ℕ) (r : Option Lexeme) → LexemeAhead s at r → head (lexemes_from s at) ≡ r
ahead_head s at None h = ap head h.0
ahead_head s at (Some l) h = ap head h.0

-- the statement that was read
pub stated : (s : List ℕ) (from a b c : ℕ) (l : Lexeme) (second : Option Lexeme) (name : Option Span) (t : Tally) → LexemeTaken s from a (Some l) → Sought s a b second → name ≡ entered s (statement_kind l.kind) second → Counted (one_more none_yet l) s b c t → StatementTaken s from c (Some (record { at = l.at; end = c; kind = statement_kind l.kind; name = name; tokens = t.tokens; wrong = t.wrong }))
unfolding statements_from
stated s from a b c l second name t h k n w =
    let la = lexemes_from s a in
    let end : start_of s (runs (from_next la)) ≡ c = ap (λ ls. start_of s (runs ls)) (ap from_next k.same ∙ sym w.left) ∙ runs_start s (lexemes_from s c) ∙ sym w.place in
    let named : entered s (statement_kind l.kind) (head (until la)) ≡ name =
    sym (named_until s (statement_kind l.kind) la) ∙ ap (entered s (statement_kind l.kind)) (ap head k.same ∙ ahead_head s b second k.ahead) ∙ sym n in
    let counted : t ≡ tally (one_more none_yet l) (until la) = w.count ∙ ap (λ ls. tally (one_more none_yet l) (until ls)) (sym k.same) in
    let told = counted ∙ tally_of l (until la) in
    let is : summary s (record { first = l; rest = until la }) (start_of s (runs (from_next la))) ≡ record { at = l.at; end = c; kind = statement_kind l.kind; name = name; tokens = t.tokens; wrong = t.wrong } =
    ap₂ (λ e x. record { at = l.at; end = e; kind = statement_kind l.kind; name = x; tokens = length (l ∷ until la); wrong = first_wrong (l ∷ until la) }) end named
    ∙ ap (λ (v : Tally). record { at = l.at; end = c; kind = statement_kind l.kind; name = name; tokens = v.tokens; wrong = v.wrong }) (sym told) in (
      ap (λ ls. summaries s (runs ls)) h.0 ∙ ap (summaries s) (runs_first l la)
          ∙ ap₂ (λ x rs. x ∷ summaries s (runs rs)) is (ap from_next k.same ∙ sym w.left),
      refl,
      omega (arith, h.1, h.2, h.3, k.forward, w.forward),
    )

-- the same, by a reader's three moves
pub stated_by : {a b c d : Reader} {l : Lexeme} {kind : Option StatementKind} {second : Option Lexeme} {name : Option Span} {t₀ t : Tally} → Moves LexemeTaken a b (Some l) → Moves Sought b c second → Moves (Counted t₀) c d t → kind ≡ statement_kind l.kind → name ≡ entered (script c) kind second → t₀ ≡ one_more none_yet l → Moves StatementTaken a d (Some (record { at = l.at; end = d.at; kind = kind; name = name; tokens = t.tokens; wrong = t.wrong }))
stated_by {a} {b} {c} {d} {l} {kind} {second} {name} {t₀} {t} first sought counted k n u =
    let same : script c ≡ script a = sought.script ∙ first.script in
    record {
      taken =
          subst (λ x. StatementTaken (script a) a.at d.at (Some (record { at = l.at; end = d.at; kind = x; name = name; tokens = t.tokens; wrong = t.wrong }))) (sym k)
          (stated (script a) a.at b.at c.at d.at l second name t first.taken (subst (λ s. Sought s b.at c.at second) first.script sought.taken)
          (n ∙ ap₂ (λ s x. entered s x second) same k)
          (subst (λ s. Counted (one_more none_yet l) s c.at d.at t) same (subst (λ v. Counted v (script c) c.at d.at t) u counted.taken)));
      script = counted.script ∙ same;
    }

pub none_stated : {a b : Reader} → Moves LexemeTaken a b None → Moves StatementTaken a b None
unfolding statements_from
none_stated {a} h = record { taken = (ap (λ ls. summaries (script a) (runs ls)) h.taken.0, h.taken.1); script = h.script }

-- at the script's end no statement is left
none_left : (s : List ℕ) (at : ℕ) → at ≡ length s → statements_from s at ≡ []
unfolding statements_from lexemes_from parts_from
none_left s at e = at_drop_all (λ bs. summaries s (runs (lexemes (parts 0 (line_start s at) bs at)))) s at (omega arith)

-- a statement that is passed is the first of those that were left
pub first_left : {a b : Reader} {r : Option Statement} → Moves StatementTaken a b r → MatchOption r ((statements_from (script a) a.at ≡ []) × (statements_from (script b) b.at ≡ [])) (λ st. statements_from (script a) a.at ≡ st ∷ statements_from (script b) b.at)
first_left {a} {b} {r = None} h = (h.taken.0, ap (λ t. statements_from t b.at) h.script ∙ none_left (script a) b.at h.taken.1)
first_left {a} {b} {r = Some st} h = h.taken.0 ∙ ap (λ t. st ∷ statements_from t b.at) (sym h.script)
