-- A script told statement by statement.
use Rattle.std.proofs.Common.{◌≡◌, ℕ, ◌+◌, ◌<◌, ◌≤◌, Bool, true, false, cond, nat_lt, List, [], ◌∷◌, ◌++◌, length, Result, IfOk, Ok, Err, sym, refl, ap, ap₂, ◌∙◌, subst, append_assoc, append-nil, codes, decimal, arith}
use Rattle.std.proofs.lemmas.Fmt.{decimal_digit, decimal_step}
use Rattle.std.proofs.lemmas.Bool.{ltb-true, ltb-false}
use Rattle.script.specs.declared.statement.Statement.{Statement}
use Rattle.script.specs.Statements.{statements_from}
use Rattle.report.specs.declared.outline.Outline.{Outline}
use Rattle.report.specs.declared.reprint.Reprint.{Reprint}
use Rattle.report.specs.Lines.{Appended, line}
use Rattle.report.specs.Told.{TellsOne, TellsAll, IsTooLong, too_long}
use Rattle.report.specs.Outline.{Outlines, all_lines, outline}
use Rattle.report.specs.Reprint.{Reprints, ReprintsFrom, IsReprint, Ready, Begins}

module _ {T : Type 0} (tells : T → ℕ → Statement → List ℕ → T → Type 0) where
  -- with what is told of these statements, what was told is the whole
  abbrev pub Continues : T → ℕ → List Statement → List ℕ → (List ℕ → Type 0) → Type 0
  Continues teller n sts was Whole = (text : List ℕ) → TellsAll tells teller n sts text → Whole (was ++ text)

  -- one statement more
  pub told : (sts rest : List Statement) (i count next : ℕ) (st : Statement) (teller after : T) (was is : List ℕ) (Whole : List ℕ → Type 0) → sts ≡ st ∷ rest → i ≡ count → next ≡ count + 1 → TellsOne tells teller (i + 1) st was is after → Continues teller (count + 1) sts was Whole → Continues after (next + 1) rest is Whole
  told sts rest i count next st teller after was is Whole e f h one more = λ text x.
      let n : next + 1 ≡ (i + 1) + 1 = omega arith in
      let left : TellsAll tells after ((i + 1) + 1) rest text = subst (λ j. TellsAll tells after j rest text) n x in
      let all : TellsAll tells teller (i + 1) sts (one.text ++ text) = subst (λ y. TellsAll tells teller (i + 1) y (one.text ++ text)) (sym e) (one.text, text, after, one.told, left, refl) in
      subst Whole (sym (ap (λ l. l ++ text) one.put.whole ∙ append_assoc was one.text text))
      (more (one.text ++ text) (subst (λ j. TellsAll tells teller (j + 1) sts (one.text ++ text)) f all))

  -- no statement more
  pub told_all : (sts : List Statement) (n : ℕ) (teller : T) (was : List ℕ) (Whole : List ℕ → Type 0) → sts ≡ [] → Continues teller n sts was Whole → Whole was
  told_all sts n teller was Whole e more = subst Whole (append-nil was) (more [] (subst (λ y. TellsAll tells teller n y []) (sym e) refl))

thirteen : decimal 13 ≡ codes "13"
thirteen = decimal_step 13 (omega arith) (omega arith) ∙ ap (λ l. l ++ 51 ∷ []) (decimal_digit 1 (omega arith))

-- the one line of a script that is too long
pub too_long_line : (was is : List ℕ) → was ≡ [] → Appended was (line (codes "answer=") (decimal 13)) is → is ≡ too_long
too_long_line was is e a = a.whole ∙ ap (λ l. l ++ line (codes "answer=") (decimal 13)) e ∙ ap (line (codes "answer=")) thirteen

outlines_all : (o : Outline) (n : ℕ) (sts : List Statement) (text : List ℕ) → TellsAll Outlines o n sts text → text ≡ all_lines n o.script.now sts
outlines_all o n [] text h = h
outlines_all o n (st ∷ sts) text (here, rest, p, one, more, e) =
    e ∙ ap₂ (λ x y. x ++ y) one.0 (outlines_all p (n + 1) sts rest more ∙ ap (λ s. all_lines (n + 1) s sts) one.1)

choose : (b : Bool) (s x y text : List ℕ) → nat_lt 1000000 (length s) ≡ b → (1000000 < length s → text ≡ x) → (length s ≤ 1000000 → text ≡ y) → text ≡ cond b x y
choose true s x y text e f g = f (ltb-true 1000000 (length s) e)
choose false s x y text e f g = g (ltb-false 1000000 (length s) e)

pub outlined : {V E : Type 0} (items : V → List ℕ) (s : List ℕ) (o : Outline) (r : Result V E) → o.script.now ≡ s → (1000000 < length s → IfOk r (λ v. IsTooLong (items v))) → (length s ≤ 1000000 → IfOk r (λ v. TellsAll Outlines o 1 (statements_from s 0) (items v))) → IfOk r (λ v. items v ≡ outline s)
unfolding outline
outlined items s o (Ok v) e long all =
    choose (nat_lt 1000000 (length s)) s _ _ (items v) refl long (λ h. outlines_all o 1 (statements_from s 0) (items v) (all h) ∙ ap (λ y. all_lines 1 y (statements_from s 0)) e)
outlined items s o (Err x) e long all = tt

reprints_all : (r : Reprint) (n : ℕ) (sts : List Statement) (text : List ℕ) → Ready r → TellsAll Reprints r n sts text → ReprintsFrom r.script.now r.entries.items n sts text
reprints_all r n [] text k h = h
reprints_all r n (st ∷ sts) text k (here, rest, after, one, more, e) =
    let told = one k in
    (here, rest, after.entries.items, told.2, subst (λ s. ReprintsFrom s after.entries.items (n + 1) sts rest) told.1 (reprints_all after (n + 1) sts rest told.0 more), e)

pub reprinted : {V E : Type 0} (items : V → List ℕ) (s : List ℕ) (t : Reprint) (r : Result V E) → Begins s t → IfOk r (λ v. TellsAll Reprints t 1 (statements_from s 0) (items v)) → IfOk r (λ v. IsReprint s (items v))
reprinted items s t (Ok v) b all =
    let told = reprints_all t 1 (statements_from s 0) (items v) b.ready all in
    subst (λ es. ReprintsFrom s es 1 (statements_from s 0) (items v)) b.entries (subst (λ y. ReprintsFrom y t.entries.items 1 (statements_from s 0) (items v)) b.script told)
reprinted items s t (Err x) b all = tt
