-- How what a call has shown is put together from what its calls have shown.
use Rattle.std.proofs.Common.{◌≡◌, ℕ, suc, ◌+◌, ◌<◌, ◌≤◌, ◌⊎◌, inl, inr, Bool, true, false, List, [], ◌∷◌, IsErrAnd, IfOk, Some, None, Ok, Err, MatchBool, Option, Result, ok_or, sym, refl, ap, ◌∙◌, subst, ap₂, arith}
use Rattle.term.specs.declared.arena.Arena.{Arena}
use Rattle.term.specs.declared.faults.Spent as faults
use Rattle.term.specs.declared.node.Node.{Node}
use Rattle.term.specs.declared.node.Node.TheVariants.{Sort, Local, Match}
use Rattle.term.specs.declared.node.Node.TheVariants as node
use Rattle.term.specs.declared.node.Binary.{Binary}
use Rattle.term.specs.declared.node.Unary.TheVariants.{Fun, Fst, Snd, Inl, Inr}
use Rattle.term.specs.declared.node.Binary.TheVariants.{Pi, Sigma, Exists, Typed, App, Pair, Pack, Unpack, Sum, Ascribe, Let}
use Rattle.term.specs.Term.{Term, sort, local, entry, unary, binary, choice, bare, cells, lower, put, place}
use Rattle.term.specs.Cells.{Bound, bindings, form, typed}
use Rattle.term.specs.State.{cells_in, term, Kept, Spends, Added, Built, Lowered}
use Rattle.term.proofs.States.{still, on_to}
use Rattle.rules.specs.declared.refusal.Reason.{Reason}
use Rattle.rules.specs.declared.refusal.Reason.TheVariants.{NoRule, OtherForm, Unequal, Escapes, NoSort}
use Rattle.rules.specs.Rules.{Judgement, has, meets, gives, Question, Entry, Premises, refuse, pay, ask, premise, same, gets, on, expect, parts, lifting, lowering, rule, has_rule, meets_rule, meets_equal}
use Rattle.rules.specs.Derivation.{System, Spot, spot, refusal}
use Rattle.normal.specs.declared.halt.Halt.{Halt}
use Rattle.normal.specs.declared.halt.Halt.TheVariants as jam
use Rattle.normal.specs.declared.look.Side.{Side}
use Rattle.normal.specs.declared.look.Side.TheVariants.{First, Second}
use Rattle.normal.specs.declared.site.Site.{Site}
use Rattle.normal.specs.Views.{rows, both, over_both, chosen, entries_at, context_at, Within, Enters}
use Rattle.normal.specs.Runs.{Outcome, halted, Ends, Goes}
use Rattle.normal.specs.Runs as n
use Rattle.normal.proofs.Views.{rows_kept}
use Rattle.normal.proofs.Steps as steps
use Rattle.kernel.specs.declared.fault.Fault.{Fault}
use Rattle.kernel.specs.declared.fault.Fault.TheVariants.{Spent, Refused}
use Rattle.kernel.specs.Faults.{typing, passed, faulted}
use Rattle.kernel.specs.Runs.{outcome, Judges, Ran, Leading, Leads, JudgesAt, Begins, Expects, pair, tips, sorted, none as none_of, unruled as unruled_at, meets_side}

err_within : {A E : Type 0} (Q : E → Type 0) (P : A → Type 0) (r : Result A E) → IsErrAnd r Q → IfOk r P
err_within Q P (Ok a) q = elim q [ ]
err_within Q P (Err e) q = tt

-- what a fault of normalising means does not change on the way
pub same_fault : (h : Halt) → faulted (passed h) ≡ halted h
same_fault jam.Spent = refl
same_fault (jam.Stuck p) = refl

-- what `ok_or` says where there is nothing
unfound : {A : Type 0} {o : Option A} {e f : Fault} → o ≡ None → ◌≡◌ {A = Result A Fault} (Err e) (ok_or o f) → e ≡ f
unfound {A} {o} {e} {f} p q = let h : ◌≡◌ {A = Result A Fault} (Err e) (Err f) = q ∙ ap (λ m. ok_or m f) p in cc

module _ {S : System} {R : List Entry} {w : Spot} where
  stops : {j : Judgement} {k : Term → Premises} {b e : ℕ} (f : Fault) → Ends S R j (faulted f) b e → Goes S R w (premise j k) (faulted f) b e
  stops Spent d = steps.ran_out d
  stops (Refused r) d = steps.stopped d

  jams : {j : Judgement} {k : Term → Premises} {b e : ℕ} (h : Halt) → Ends S R j (halted h) b e → Goes S R w (premise j k) (faulted (passed h)) b e
  jams jam.Spent d = steps.ran_out d
  jams (jam.Stuck p) d = steps.stopped d

  -- an error that `?` has passed on
  goes_out : {c : Premises} {b e : ℕ} (z : Arena) (f : Fault) (r : Result ℕ Fault) → IsErrAnd r (λ y. y ≡ f) → Goes S R w c (faulted f) b e → Goes S R w c (outcome z r) b e
  goes_out z f (Ok i) q d = elim q [ ]
  goes_out {c = c} {b = b} {e = e} z f (Err y) q d = subst (λ g. Goes S R w c (faulted g) b e) (sym q) d

  leads_out : {A X : Type 0} {C : (X → Premises) → Premises} (v : A → X) {b e : ℕ} (f : Fault) (r : Result A Fault) → IsErrAnd r (λ y. y ≡ f) → ((k : X → Premises) → Goes S R w (C k) (faulted f) b e) → Leading S R w C v b e r
  leads_out v f (Ok i) q d = elim q [ ]
  leads_out {C = C} v {b = b} {e = e} f (Err y) q d = λ k. subst (λ g. Goes S R w (C k) (faulted g) b e) (sym q) (d k)

  -- the first premises held, and the rest was gone through
  pub then : {A X : Type 0} {C : (X → Premises) → Premises} {v : A → X} {tip : A → ℕ} {k : X → Premises} {x y z : Arena} {i : A} {r : Result ℕ Fault} → Leads S R w C v tip x y (Ok i) → Ran S R w (k (v i)) y z r → Ran S R w (C k) x z r
  then {k = k} d e = record {
    kept = on_to d.kept e.kept;
    fair = omega (arith, d.fair, e.fair);
    falls = omega (arith, d.falls, e.falls);
    within = e.within;
    went = d.went k _ _ e.went;
  }

  -- or they did not, and `?` leaves
  pub halt : {A X : Type 0} {C : (X → Premises) → Premises} {v : A → X} {tip : A → ℕ} {k : X → Premises} {x y : Arena} {f : Fault} {r : Result ℕ Fault} → IsErrAnd r (λ e. e ≡ f) → Leads S R w C v tip x y (Err f) → Ran S R w (C k) x y r
  halt {k = k} {y = y} {f = f} {r = r} q d = record {
    kept = d.kept;
    fair = omega (arith, d.fair);
    falls = d.falls;
    within = err_within (λ e. e ≡ f) (λ i. i < cells_in y) r q;
    went = goes_out y f r q (d.went k);
  }

  -- they are all there is
  pub last : {C : (Term → Premises) → Premises} {x z : Arena} {r : Result ℕ Fault} → Leads S R w C (term z) suc x z r → Ran S R w (C gets) x z r
  last {r = Ok i} d = record { kept = d.kept; fair = omega (arith, d.fair); falls = d.falls; within = omega (arith, d.within); went = d.went gets _ _ (steps.concluded refl) }
  last {r = Err f} d = record { kept = d.kept; fair = omega (arith, d.fair); falls = d.falls; within = tt; went = d.went gets }

  -- first premises before others
  pub then_lead : {A X B Y : Type 0} {C : (X → Premises) → Premises} {v : A → X} {tip : A → ℕ} (D : X → (Y → Premises) → Premises) {u : B → Y} {top : B → ℕ} {x y z : Arena} {i : A} {r : Result B Fault} → Leads S R w C v tip x y (Ok i) → Leads S R w (D (v i)) u top y z r → Leads S R w (λ k. C (λ a. D a k)) u top x z r
  then_lead D {r = Ok j} d e = record {
    kept = on_to d.kept e.kept;
    fair = omega (arith, d.fair, e.fair);
    falls = omega (arith, d.falls, e.falls);
    within = e.within;
    went = λ k o m h. d.went (λ a. D a k) o m (e.went k o m h);
  }
  then_lead D {r = Err f} d e = record {
    kept = on_to d.kept e.kept;
    fair = omega (arith, d.fair, e.fair);
    falls = omega (arith, d.falls, e.falls);
    within = tt;
    went = λ k. d.went (λ a. D a k) _ _ (e.went k);
  }

  pub halt_lead : {A X B Y : Type 0} {C : (X → Premises) → Premises} {v : A → X} {tip : A → ℕ} (D : X → (Y → Premises) → Premises) {u : B → Y} {top : B → ℕ} {x y : Arena} {f : Fault} {r : Result B Fault} → IsErrAnd r (λ e. e ≡ f) → Leads S R w C v tip x y (Err f) → Leads S R w (λ k. C (λ a. D a k)) u top x y r
  halt_lead D {u = u} {top = top} {y = y} {f = f} {r = r} q d = record {
    kept = d.kept;
    fair = d.fair;
    falls = d.falls;
    within = err_within (λ e. e ≡ f) (λ i. top i ≤ cells_in y) r q;
    went = leads_out u f r q (λ k. d.went (λ a. D a k));
  }

  -- a judgement as a first premise
  pub premised : {j : Judgement} {x y : Arena} {r : Result ℕ Fault} → Judges S R j x y r → Leads S R w (premise j) (term y) suc x y r
  premised {r = Ok i} d = record { kept = d.kept; fair = d.fair; falls = d.falls; within = d.within; went = λ k o e h. steps.held d.went h }
  premised {r = Err f} d = record { kept = d.kept; fair = d.fair; falls = d.falls; within = tt; went = λ k. stops f d.went }

  -- a normal form as a first premise
  pub formed : {p : ℕ} {Δ : List (Option Term)} {E : Term} {x y : Arena} {i : ℕ} → n.Judges R p Δ E x y (Ok i) → Leads S R w (premise (gives p Δ E)) (term y) suc x y (Ok i)
  formed d = record { kept = d.kept; fair = d.fair; falls = d.falls; within = d.within; went = λ k o e h. steps.held (d.went S) h }

  -- the same where `?` has changed the fault
  pub unformed : {p : ℕ} {Δ : List (Option Term)} {E : Term} {x y : Arena} {h : Halt} → n.Judges R p Δ E x y (Err h) → Leads {A = ℕ} S R w (premise (gives p Δ E)) (term y) suc x y (Err (passed h))
  unformed {h = h} d = record { kept = d.kept; fair = d.fair; falls = d.falls; within = tt; went = λ k. jams h (d.went S) }

  out : {n : ℕ} {c : Premises} {x y : Arena} {r : Result ℕ Fault} → Kept x y → cells_in y + y.left ≤ cells_in x + x.left → x.left < n → IsErrAnd r (λ e. e ≡ Spent) → Ran S R w (pay n c) x y r
  out {y = y} {r = r} k h l q = record {
    kept = k;
    fair = omega (arith, h);
    falls = omega (arith, h, k.long);
    within = err_within (λ e. e ≡ Spent) (λ i. i < cells_in y) r q;
    went = goes_out y Spent r q (steps.short l);
  }

  -- a step under a binder
  pub enters : {s t : Site} {B : Bound} {c : Premises} {x y z : Arena} {r : Result ℕ Fault} → Enters s B x y (Ok t) → Ran S R w c y z r → Ran S R w (pay 1 c) x z r
  enters b d = record {
    kept = on_to b.kept d.kept;
    fair = omega (arith, b.fair, d.fair);
    falls = omega (arith, b.made.1, d.falls);
    within = d.within;
    went = steps.pays (omega (arith, b.made.1)) d.went;
  }

  pub barred : {s : Site} {B : Bound} {c : Premises} {x y : Arena} {f : faults.Spent} {r : Result ℕ Fault} → IsErrAnd r (λ e. e ≡ Spent) → Enters s B x y (Err f) → Ran S R w (pay 1 c) x y r
  barred q b = out b.kept b.fair (omega (arith, b.made)) q

  -- a traversal with its cost
  pub pays : {n : ℕ} {t : Term} {c : Premises} {x y z : Arena} {i : ℕ} {r : Result ℕ Fault} → Built x y n t (Ok i) → Ran S R w c y z r → Ran S R w (pay n c) x z r
  pays b d = record {
    kept = on_to b.kept d.kept;
    fair = omega (arith, b.fair, d.fair);
    falls = omega (arith, b.made.2, d.falls);
    within = d.within;
    went = steps.pays (omega (arith, b.made.2)) d.went;
  }

  pub lacks : {n : ℕ} {t : Term} {c : Premises} {x y : Arena} {f : faults.Spent} {r : Result ℕ Fault} → IsErrAnd r (λ e. e ≡ Spent) → Built x y n t (Err f) → Ran S R w (pay n c) x y r
  lacks q b = out b.kept b.fair b.made q

  -- a step under a binder, before first premises
  pub enters_lead : {B Y : Type 0} {D : (Y → Premises) → Premises} {u : B → Y} {top : B → ℕ} {s t : Site} {b : Bound} {x y z : Arena} {r : Result B Fault} → Enters s b x y (Ok t) → Leads S R w D u top y z r → Leads S R w (λ k. pay 1 (D k)) u top x z r
  enters_lead {r = Ok j} b d = record {
    kept = on_to b.kept d.kept;
    fair = omega (arith, b.fair, d.fair);
    falls = omega (arith, b.made.1, d.falls);
    within = d.within;
    went = λ k o e h. steps.pays (omega (arith, b.made.1)) (d.went k o e h);
  }
  enters_lead {r = Err f} b d = record {
    kept = on_to b.kept d.kept;
    fair = omega (arith, b.fair, d.fair);
    falls = omega (arith, b.made.1, d.falls);
    within = tt;
    went = λ k. steps.pays (omega (arith, b.made.1)) (d.went k);
  }

  pub barred_lead : {B Y : Type 0} (D : (Y → Premises) → Premises) {u : B → Y} {top : B → ℕ} {s : Site} {b : Bound} {x y : Arena} {f : faults.Spent} {r : Result B Fault} → IsErrAnd r (λ e. e ≡ Spent) → Enters s b x y (Err f) → Leads S R w (λ k. pay 1 (D k)) u top x y r
  barred_lead D {u = u} {top = top} {y = y} {r = r} q b = record {
    kept = b.kept;
    fair = b.fair;
    falls = omega (arith, b.fair, b.kept.long);
    within = err_within (λ e. e ≡ Spent) (λ i. top i ≤ cells_in y) r q;
    went = leads_out u Spent r q (λ k. steps.short (omega (arith, b.made)));
  }

  -- what must be there is there, or not
  pub given : {A X : Type 0} {m : Option X} {v : A → X} {tip : A → ℕ} {x : Arena} {i : A} → m ≡ Some (v i) → tip i ≤ cells_in x → Leads S R w (expect m) v tip x x (Ok i)
  given {v = v} {x = x} {i = i} e l = record { kept = still x; fair = omega arith; falls = omega arith; within = l; went = λ k o m h. rw e h }

  pub missing : {A X : Type 0} {m : Option X} {v : A → X} {tip : A → ℕ} {x : Arena} {f : Fault} → m ≡ None → f ≡ Refused (refusal OtherForm w) → Leads S R w (expect m) v tip x x (Err f)
  missing {x = x} e q = record { kept = still x; fair = omega arith; falls = omega arith; within = tt; went = λ k. rw (e, q) (steps.refuses refl) }

  -- the parts that must be there, as they were found
  pub expected : {p : ℕ} {r : Result (ℕ × ℕ) Fault} (b : Binary) (x : Arena) (i : ℕ) → w ≡ typing p → i < cells_in x → Expects x p b i r → Leads S R w (expect (parts b (term x i))) (pair x) tips x x r
  expected {r = Ok s} b x i q l d = given d.0 (omega arith)
  expected {r = Err f} b x i q l d = missing d.0 (d.1 ∙ ap (λ u. Refused (refusal OtherForm u)) (sym q))

  -- the sort that `ok_or` finds
  pub sort_or : {m : Option ℕ} {x : Arena} {f : Fault} (o : Option ℕ) → o ≡ m → f ≡ Refused (refusal OtherForm w) → Leads S R w (expect m) sorted none_of x x (ok_or o f)
  sort_or None e q = missing (sym e) q
  sort_or (Some i) e q = given (sym e) (omega arith)

  -- the conclusion stands there
  pub concluded : {T : Term} {x : Arena} {i : ℕ} → T ≡ term x i → i < cells_in x → Ran S R w (gets T) x x (Ok i)
  concluded {T} {x} {i} e l = record {
    kept = still x;
    fair = omega arith;
    falls = omega arith;
    within = l;
    went = subst (λ u. Goes S R w (gets u) (Outcome.done (term x i) None) x.left x.left) (sym e) (steps.concluded refl);
  }

  -- it still stands there
  pub stays_there : {x y : Arena} {i : ℕ} → Kept x y → i < cells_in x → Ran S R w (gets (term x i)) y y (Ok i)
  stays_there k l = concluded (sym (k.trees _ l)) (omega (arith, k.long, l))

  -- it stands in the cell that the use of the rule has paid for
  pub stored : {c : Node} {T : Term} {x y : Arena} {i : ℕ} → form c (term x) ≡ T → Added x y c i → Ran S R w (gets T) x y (Ok i)
  stored {c} {T} {x} {y} {i} e a = record {
    kept = a.kept;
    fair = omega (arith, a.len, a.left);
    falls = omega (arith, a.left);
    within = omega (arith, a.len, a.at);
    went = subst (λ u. Goes S R w (gets T) (Outcome.done u None) x.left y.left) (sym (a.made ∙ e)) (steps.concluded (sym a.left));
  }

  -- that cell holds a term that the rest speaks of
  pub after_adding : {c : Node} {d : Premises} {x y z : Arena} {i : ℕ} {r : Result ℕ Fault} → Added x y c i → cells_in z + z.left ≤ cells_in y + y.left → Ran S R w d y z r → Ran S R w d x z r
  after_adding {d = d} {x = x} {z = z} {r = r} a f e = record {
    kept = on_to a.kept e.kept;
    fair = omega (arith, a.len, a.left, f);
    falls = omega (arith, a.left, e.falls);
    within = e.within;
    went = subst (λ n. Goes S R w d (outcome z r) n z.left) a.left e.went;
  }

  pub refused : {c : Reason} {x : Arena} {f : Fault} → f ≡ Refused (refusal c w) → Ran S R w (refuse c) x x (Err f)
  refused {x = x} q = record { kept = still x; fair = omega arith; falls = omega arith; within = tt; went = rw q (steps.refuses refl) }

  -- the same where `ok_or` makes the fault and `?` passes it on
  pub refused_out : {A : Type 0} {o : Option A} {c : Reason} {x : Arena} {e f : Fault} {r : Result ℕ Fault} → IsErrAnd r (λ g. g ≡ e) → o ≡ None → ◌≡◌ {A = Result A Fault} (Err e) (ok_or o f) → f ≡ Refused (refusal c w) → Ran S R w (refuse c) x x r
  refused_out {r = Ok i} q n v p = elim q [ ]
  refused_out {r = Err g} q n v p = refused (q ∙ unfound n v ∙ p)

  pub answered : {o : Option ℕ} {q : Question} {k : ℕ → Premises} {s : ℕ} {x z : Arena} {r : Result ℕ Fault} → S q ≡ o → o ≡ Some s → Ran S R w (k s) x z r → Ran S R w (ask q k) x z r
  answered e n d = record { kept = d.kept; fair = d.fair; falls = d.falls; within = d.within; went = steps.told (e ∙ n) d.went }

  pub unanswered : {o : Option ℕ} {q : Question} {k : ℕ → Premises} {x : Arena} {e f : Fault} {r : Result ℕ Fault} → S q ≡ o → IsErrAnd r (λ g. g ≡ e) → o ≡ None → ◌≡◌ {A = Result ℕ Fault} (Err e) (ok_or o f) → f ≡ Refused (refusal NoSort w) → Ran S R w (ask q k) x x r
  unanswered {r = Ok i} a q n v p = elim q [ ]
  unanswered {x = x} {r = Err g} a q n v p = record { kept = still x; fair = omega arith; falls = omega arith; within = tt; went = rw (q ∙ unfound n v ∙ p) (steps.untold (a ∙ n) refl) }

  pub alike : {t u : Term} {c : Premises} {x z : Arena} {r : Result ℕ Fault} → bare t ≡ bare u → Ran S R w c x z r → Ran S R w (same t u c) x z r
  alike e d = record { kept = d.kept; fair = d.fair; falls = d.falls; within = d.within; went = steps.alike e d.went }

  pub unlike : {t u : Term} {c : Premises} {x : Arena} {f : Fault} → (bare t ≡ bare u → ⊥) → f ≡ Refused (refusal Unequal w) → Ran S R w (same t u c) x x (Err f)
  unlike {x = x} e q = record { kept = still x; fair = omega arith; falls = omega arith; within = tt; went = rw q (steps.unlike e refl) }

  -- tests in the premises
  pub some : {A : Type 0} {m : Option A} {v : A} (c : Premises) (f : A → Premises) {x z : Arena} {r : Result ℕ Fault} → m ≡ Some v → Ran S R w (f v) x z r → Ran S R w (on m c f) x z r
  some c f e d = rw e d

  pub none : {A : Type 0} {m : Option A} {c : Premises} (f : A → Premises) {x z : Arena} {r : Result ℕ Fault} → m ≡ None → Ran S R w c x z r → Ran S R w (on m c f) x z r
  none f e d = rw e d

  -- the only premises that a rule can be
  pub only : {c d : Premises} {x z : Arena} {r : Result ℕ Fault} → ◌≡◌ {A = Option Premises} (Some d) (Some c) → Ran S R w d x z r → Ran S R w c x z r
  only {c} {d} {x} {z} {r} q h = subst (λ a. Ran S R w a x z r) (let e : d ≡ c = cc in e) h

-- the parts that `ok_or` finds
pub parts_or : {p : ℕ} {f : Fault} (b : Binary) (x : Arena) (i : ℕ) (o : Option (ℕ × ℕ)) → parts b (term x i) ≡ both x o → over_both o ≤ i → f ≡ Refused (refusal OtherForm (typing p)) → Expects x p b i (ok_or o f)
parts_or b x i None e l q = (e, q)
parts_or b x i (Some s) e l q = (e, l)

-- t is s under the binders of Γ, in the same system
pub record Nested (S S' : System) (s t : Site) (y : Arena) (Γ : List Bound) : Type 0 where
  pub system : S' ≡ S
  pub entries : t.entries ≡ s.entries
  pub place : t.place ≡ s.place
  pub context : context_at t y ≡ Γ

pub nested : {S S' : System} {s t : Site} {B : Bound} {x y : Arena} → S' ≡ S → Enters s B x y (Ok t) → Nested S S' s t y (B ∷ context_at s x)
nested q e = let t = e.made.0 in record { system = q; entries = t.entries; place = t.place; context = t.context }

pub nested_twice : {S S' T : System} {s t u : Site} {B : Bound} {Γ : List Bound} {x y : Arena} → T ≡ S' → Nested S S' s t x Γ → Enters t B x y (Ok u) → Nested S T s u y (B ∷ Γ)
nested_twice {B = B} q n e =
    let t = e.made.0 in
    record { system = q ∙ n.system; entries = t.entries ∙ n.entries; place = t.place ∙ n.place; context = t.context ∙ ap (λ Γ. B ∷ Γ) n.context }

-- the context under a binder that was stepped under later
pub outside : {s : Site} {B B' : Bound} {x y : Arena} → B ≡ B' → Kept x y → Within s x → ◌≡◌ {A = List Bound} (B ∷ context_at s y) (B' ∷ context_at s x)
outside {s = s} e k h = ap₂ (λ b Γ. b ∷ Γ) e (k.chains s.context h.ctx)

-- the same of entries and premises that are equal
pub rest : {S : System} {R R' : List Entry} {w : Spot} {c c' : Premises} {x z : Arena} {r : Result ℕ Fault} → R' ≡ R → c' ≡ c → Ran S R' w c' x z r → Ran S R w c x z r
rest a b d = rw (← a, ← b) d

pub bound_of : {P P' : Term} (v : Option Term) → P ≡ P' → ◌≡◌ {A = Bound} (record { type = P; value = v }) (record { type = P'; value = v })
bound_of v e = ap (λ P. record { type = P; value = v }) e

module _ {A X : Type 0} {v : A → X} {tip : A → ℕ} {z : Arena} {r : Result A Fault} where
  -- what was said of entries and premises that are the same
  pub like : {S : System} {R R' : List Entry} {w : Spot} {C C' : (X → Premises) → Premises} {x : Arena} → R' ≡ R → C' ≡ C → Leads S R' w C' v tip x z r → Leads S R w C v tip x z r
  like a b d = rw (← a, ← b) d

  -- what was said later, of premises that are the same
  pub earlier : {S : System} {s : Site} {w : Spot} {C C' : (X → Premises) → Premises} {x y : Arena} → Kept x y → Within s x → C' ≡ C → Leads S (entries_at s y) w C' v tip y z r → Leads S (entries_at s x) w C v tip y z r
  earlier {s = s} k h e d = like (rows_kept s.entries.now k h.rows) e d

  -- of a context, and of what was there earlier
  pub again : {Y : Type 0} {S : System} {s : Site} {w : Spot} {E E' : Y} {x y : Arena} (F : List Bound → Y → (X → Premises) → Premises) → E' ≡ E → Kept x y → Within s x → Leads S (entries_at s y) w (F (context_at s y) E') v tip y z r → Leads S (entries_at s x) w (F (context_at s x) E) v tip y z r
  again {s = s} F e k h d = earlier k h (ap₂ F (k.chains s.context h.ctx) e) d

  -- said under binders
  beneath : {S S' : System} {s t : Site} {Γ : List Bound} {y : Arena} (C : List Bound → (X → Premises) → Premises) → Nested S S' s t y Γ → Begins S' t C v tip y z r → Leads S (entries_at s y) (typing s.place) (C Γ) v tip y z r
  beneath {y = y} C n d = rw (← n.system, ← n.place, ← ap (λ es. rows y es.now) n.entries, ← n.context) d

  pub inner : {Y : Type 0} {S S' : System} {s t : Site} {Γ Γ' : List Bound} {E E' : Y} {x u : Arena} (F : List Bound → Y → (X → Premises) → Premises) → Nested S S' s t u Γ' → Γ' ≡ Γ → E' ≡ E → Kept x u → Within s x → Begins S' t (λ Δ. F Δ E') v tip u z r → Leads S (entries_at s x) (typing s.place) (F Γ E) v tip u z r
  inner {E' = E'} F n q e k h d = earlier k h (ap₂ F q e) (beneath (λ Δ. F Δ E') n d)

  -- said of a part under one binder
  pub inner_part : {S S' : System} {s t : Site} {B B' : Bound} {x y u : Arena} (F : List Bound → Term → (X → Premises) → Premises) (i : ℕ) → S' ≡ S → B ≡ B' → Kept x y → Within s x → i < cells_in x → Enters s B y u (Ok t) → Begins S' t (λ Δ. F Δ (term u i)) v tip u z r → Leads S (entries_at s x) (typing s.place) (F (B' ∷ context_at s x) (term x i)) v tip u z r
  inner_part F i q e k h l n d = let m = on_to k n.kept in inner F (nested q n) (outside e k h) (m.trees i l) m h d

-- a type that was inferred under one binder
pub inner_type : {S S' : System} {s t : Site} {B B' : Bound} {x y u z : Arena} {r : Result ℕ Fault} (i : ℕ) → S' ≡ S → B ≡ B' → Kept x y → Within s x → i < cells_in x → Enters s B y u (Ok t) → JudgesAt S' t (λ Δ. has Δ (term u i)) u z r → Leads S (entries_at s x) (typing s.place) (premise (has (B' ∷ context_at s x) (term x i))) (term z) suc u z r
inner_type i q e k h l n d = inner_part (λ Γ E. premise (has Γ E)) i q e k h l n (premised d)

-- a normal form as a first premise, later
pub form_again : {S : System} {s : Site} {w : Spot} {x y z : Arena} {j : ℕ} (i : ℕ) → Kept x y → Within s x → i < cells_in x → n.Normalises s (term y i) y z (Ok j) → Leads S (entries_at s x) w (premise (gives s.place (bindings (context_at s x)) (term x i))) (term z) suc y z (Ok j)
form_again {s = s} i k h l d = again (λ Γ E. premise (gives s.place (bindings Γ) E)) (k.trees i l) k h (formed d)

pub form_stopped : {S : System} {s : Site} {w : Spot} {x y z : Arena} {f : Halt} (i : ℕ) → Kept x y → Within s x → i < cells_in x → n.Normalises s (term y i) y z (Err f) → Leads {A = ℕ} S (entries_at s x) w (premise (gives s.place (bindings (context_at s x)) (term x i))) (term z) suc y z (Err (passed f))
form_stopped {s = s} i k h l d = again (λ Γ E. premise (gives s.place (bindings Γ) E)) (k.trees i l) k h (unformed d)

-- a normal form of what was put together
pub form_filled : {S : System} {s : Site} {w : Spot} {t : Term} {x y z : Arena} {j : ℕ} (i : ℕ) → Kept x y → Within s x → term y i ≡ t → n.Normalises s (term y i) y z (Ok j) → Leads S (entries_at s x) w (premise (gives s.place (bindings (context_at s x)) t)) (term z) suc y z (Ok j)
form_filled {s = s} i k h e d = again (λ Γ E. premise (gives s.place (bindings Γ) E)) e k h (formed d)

pub fill_stopped : {S : System} {s : Site} {w : Spot} {t : Term} {x y z : Arena} {f : Halt} (i : ℕ) → Kept x y → Within s x → term y i ≡ t → n.Normalises s (term y i) y z (Err f) → Leads {A = ℕ} S (entries_at s x) w (premise (gives s.place (bindings (context_at s x)) t)) (term z) suc y z (Err (passed f))
fill_stopped {s = s} i k h e d = again (λ Γ E. premise (gives s.place (bindings Γ) E)) e k h (unformed d)

pub typed_as : {S : System} {R : List Entry} {w : Spot} {m m' : Option ℕ} {x z : Arena} {r : Result ℕ Fault} (n : ℕ) (a : Arena) → m ≡ m' → Ran S R w (lifting n (typed m' (term a)) gets) x z r → Ran S R w (lifting n (typed m (term a)) gets) x z r
typed_as n a e d = rw e d

-- how a lowering ends
pub lower_or : {S : System} {R : List Entry} {w : Spot} (n : ℕ) (t : Term) {x y : Arena} {f : Fault} (o : Option ℕ) → f ≡ Refused (refusal Escapes w) → Lowered x y (lower n 0 t) (Ok o) → Leads S R w (lowering n t) (term y) suc x y (ok_or o f)
lower_or n t None q d = record {
  kept = d.kept;
  fair = d.fair;
  falls = omega (arith, d.made.1);
  within = tt;
  went = λ k. rw (d.made.0, q) (steps.refuses (sym d.made.1));
}
lower_or n t (Some i) q d = record {
  kept = d.kept;
  fair = d.fair;
  falls = omega (arith, d.made.2);
  within = d.made.0;
  went = λ k o e h. rw d.made.1 (steps.pays (omega (arith, d.made.2)) h);
}

pub lowered_short : {S : System} {R : List Entry} {w : Spot} (n : ℕ) (t : Term) {x y : Arena} {f : faults.Spent} {r : Result ℕ Fault} → IsErrAnd r (λ e. e ≡ Spent) → Lowered x y (lower n 0 t) (Err f) → Leads S R w (lowering n t) (term y) suc x y r
lowered_short n t {r = Ok i} q d = elim q [ ]
lowered_short n t {r = Err g} q d = record {
  kept = d.kept;
  fair = d.fair;
  falls = omega (arith, d.fair, d.kept.long);
  within = tt;
  went = λ k. rw (d.made.1, q) (steps.short d.made.2);
}

-- the use of a rule is paid, and its premises were gone through
pub ruled : {S : System} {R : List Entry} {j : Judgement} {c : Premises} {u : Unit {0}} {x y z : Arena} {r : Result ℕ Fault} → Spends x y 1 (Ok u) → rule R j ≡ Some c → Ran S R (spot j) c y z r → Judges S R j x z r
ruled s q d = record {
  kept = on_to s.kept d.kept;
  fair = omega (arith, s.len, s.made, d.fair);
  falls = omega (arith, s.made, d.falls);
  within = d.within;
  went = steps.by_rule q (omega (arith, s.made)) d.went;
}

-- it cannot be paid
pub broke : {S : System} {R : List Entry} {j : Judgement} {c : Premises} {f : faults.Spent} {x y : Arena} {r : Result ℕ Fault} → IsErrAnd r (λ e. e ≡ Spent) → rule R j ≡ Some c → Spends x y 1 (Err f) → Judges S R j x y r
broke {r = Ok i} q e s = elim q [ ]
broke {S} {R} {j} {x = x} {y = y} {r = Err g} q e s = record {
  kept = s.kept;
  fair = omega (arith, s.len, s.fair);
  falls = s.fair;
  within = tt;
  went = subst (λ h. Ends S R j (faulted h) x.left y.left) (sym q) (steps.broke e (omega (arith, s.made.1)));
}

-- there is none
pub unruled : {S : System} {R : List Entry} {j : Judgement} {x : Arena} {f : Fault} → rule R j ≡ None → f ≡ Refused (refusal NoRule (spot j)) → Judges S R j x x (Err f)
unruled {x = x} e q = record { kept = still x; fair = omega arith; falls = omega arith; within = tt; went = rw q (steps.unruled e refl) }

-- a term put in, as it was earlier
pub put_as : {x y : Arena} {A A' B B' : Term} {r : Result ℕ faults.Spent} → A ≡ A' → B ≡ B' → Built x y (cells (put (A ∷ []) 0 B)) (put (A ∷ []) 0 B) r → Built x y (cells (put (A' ∷ []) 0 B')) (put (A' ∷ []) 0 B') r
put_as p q d = rw (← p, ← q) d

known_has : (R : List Entry) (Γ : List Bound) (E : Term) → rule R (has Γ E) ≡ has_rule R Γ E
unfolding rule
known_has R Γ E = refl

known_meets : (R : List Entry) (Γ : List Bound) (E T : Term) → rule R (meets Γ E T) ≡ Some (meets_rule Γ E T)
unfolding rule
known_meets R Γ E T = refl

judged_as : {S : System} {R R' : List Entry} {j j' : Judgement} {x z : Arena} {r : Result ℕ Fault} → R' ≡ R → j' ≡ j → Judges S R' j' x z r → Judges S R j x z r
judged_as a b d = rw (← a, ← b) d

at_place : {S : System} {R : List Entry} {p q : ℕ} {c : Premises} {x z : Arena} {r : Result ℕ Fault} → q ≡ p → Ran S R (typing p) c x z r → Ran S R (typing q) c x z r
at_place e d = rw e d

-- the use of a rule is paid, and its premises were gone through: for a term at p
pub has_ruled : {S : System} {s : Site} {c : Premises} {p : ℕ} {u : Unit {0}} {x y z : Arena} {r : Result ℕ Fault} (i : ℕ) → Spends x y 1 (Ok u) → Within s x → i < cells_in x → place (term y i) ≡ p → has_rule (entries_at s y) (context_at s y) (term y i) ≡ Some c → Ran S (entries_at s y) (typing p) c y z r → Judges S (entries_at s x) (has (context_at s x) (term x i)) x z r
has_ruled {s = s} {y = y} i m h l e q d =
    judged_as (rows_kept s.entries.now m.kept h.rows) (ap₂ has (m.kept.chains s.context h.ctx) (m.kept.trees i l))
    (ruled m (known_has (entries_at s y) (context_at s y) (term y i) ∙ q) (at_place e d))

pub meets_ruled : {S : System} {s : Site} {c : Premises} {p : ℕ} {u : Unit {0}} {x y z : Arena} {r : Result ℕ Fault} (i t : ℕ) → Spends x y 1 (Ok u) → Within s x → i < cells_in x → t < cells_in x → place (term y i) ≡ p → meets_rule (context_at s y) (term y i) (term y t) ≡ c → Ran S (entries_at s y) (typing p) c y z r → Judges S (entries_at s x) (meets (context_at s x) (term x i) (term x t)) x z r
meets_ruled {s = s} {x = x} {y = y} i t m h l n e q d =
    judged_as (rows_kept s.entries.now m.kept h.rows) (ap₂ (λ Γ E. meets Γ E (term y t)) (m.kept.chains s.context h.ctx) (m.kept.trees i l) ∙ ap (meets (context_at s x) (term x i)) (m.kept.trees t n))
    (ruled m (known_meets (entries_at s y) (context_at s y) (term y i) (term y t) ∙ ap Some q) (at_place e d))

-- it cannot be paid
pub has_broke : {S : System} {R : List Entry} {Γ : List Bound} {E : Term} {c : Premises} {f : faults.Spent} {x y : Arena} {r : Result ℕ Fault} → IsErrAnd r (λ e. e ≡ Spent) → has_rule R Γ E ≡ Some c → Spends x y 1 (Err f) → Judges S R (has Γ E) x y r
has_broke {R = R} {Γ = Γ} {E = E} q e s = broke q (known_has R Γ E ∙ e) s

pub meets_broke : {S : System} {R : List Entry} {Γ : List Bound} {E T : Term} {f : faults.Spent} {x y : Arena} {r : Result ℕ Fault} → IsErrAnd r (λ e. e ≡ Spent) → Spends x y 1 (Err f) → Judges S R (meets Γ E T) x y r
meets_broke {R = R} {Γ = Γ} {E = E} {T = T} q s = broke q (known_meets R Γ E T) s

-- there is none
pub has_unruled : {S : System} {R : List Entry} {Γ : List Bound} {E : Term} {p : ℕ} {x : Arena} {f : Fault} → has_rule R Γ E ≡ None → place E ≡ p → f ≡ Refused (refusal NoRule (typing p)) → Judges S R (has Γ E) x x (Err f)
has_unruled {R = R} {Γ = Γ} {E = E} e q h = unruled (known_has R Γ E ∙ e) (h ∙ ap (λ a. Refused (refusal NoRule (typing a))) (sym q))

some_of : {p q : ℕ} → ◌≡◌ {A = Option ℕ} (Some p) (Some q) → p ≡ q
some_of e = cc

pub not_some : {A B : Type 0} {x : A} → ◌≡◌ {A = Option A} None (Some x) → B
not_some e = absurd (let z : ◌≡◌ {A = ℕ} 0 1 = cc in omega arith)

pub nothing : {A : Type 0} (o : Option A) → ((x : A) → o ≡ Some x → ⊥) → o ≡ None
nothing None h = refl
nothing (Some x) h = absurd (h x refl)

pub no_rule_at : (R : List Entry) (Γ : List Bound) (t : Term) {p : ℕ} → unruled_at t ≡ Some p → (has_rule R Γ t ≡ None) × (place t ≡ p)
no_rule_at R Γ (sort p s) e = not_some e
no_rule_at R Γ (local p k) e = not_some e
no_rule_at R Γ (entry p j) e = not_some e
no_rule_at R Γ (unary p Fun E) e = (refl, some_of e)
no_rule_at R Γ (unary p Fst E) e = not_some e
no_rule_at R Γ (unary p Snd E) e = not_some e
no_rule_at R Γ (unary p Inl E) e = (refl, some_of e)
no_rule_at R Γ (unary p Inr E) e = (refl, some_of e)
no_rule_at R Γ (binary p Pi E F) e = not_some e
no_rule_at R Γ (binary p Sigma E F) e = not_some e
no_rule_at R Γ (binary p Exists E F) e = not_some e
no_rule_at R Γ (binary p Typed E F) e = not_some e
no_rule_at R Γ (binary p App E F) e = not_some e
no_rule_at R Γ (binary p Pair E F) e = (refl, some_of e)
no_rule_at R Γ (binary p Pack E F) e = (refl, some_of e)
no_rule_at R Γ (binary p Unpack E F) e = not_some e
no_rule_at R Γ (binary p Sum E F) e = not_some e
no_rule_at R Γ (binary p Ascribe E F) e = not_some e
no_rule_at R Γ (binary p Let E F) e = not_some e
no_rule_at R Γ (choice p E F G) e = not_some e

pub rule_at : (R : List Entry) (Γ : List Bound) (t : Term) → unruled_at t ≡ None → (c : Premises) × (has_rule R Γ t ≡ Some c)
rule_at R Γ (sort p s) e = (_, refl)
rule_at R Γ (local p k) e = (_, refl)
rule_at R Γ (entry p j) e = (_, refl)
rule_at R Γ (unary p Fun E) e = not_some (sym e)
rule_at R Γ (unary p Fst E) e = (_, refl)
rule_at R Γ (unary p Snd E) e = (_, refl)
rule_at R Γ (unary p Inl E) e = not_some (sym e)
rule_at R Γ (unary p Inr E) e = not_some (sym e)
rule_at R Γ (binary p Pi E F) e = (_, refl)
rule_at R Γ (binary p Sigma E F) e = (_, refl)
rule_at R Γ (binary p Exists E F) e = (_, refl)
rule_at R Γ (binary p Typed E F) e = (_, refl)
rule_at R Γ (binary p App E F) e = (_, refl)
rule_at R Γ (binary p Pair E F) e = not_some (sym e)
rule_at R Γ (binary p Pack E F) e = not_some (sym e)
rule_at R Γ (binary p Unpack E F) e = (_, refl)
rule_at R Γ (binary p Sum E F) e = (_, refl)
rule_at R Γ (binary p Ascribe E F) e = (_, refl)
rule_at R Γ (binary p Let E F) e = (_, refl)
rule_at R Γ (choice p E F G) e = (_, refl)

-- the forms that meet a type by having an equal one, whatever their parts
pub equal_rule : {c : Node} {p : ℕ} (Γ : List Bound) (T : Term) (f : ℕ → Term) → ((s : ℕ) × (c ≡ Sort p s)) ⊎ (((k : ℕ) × (c ≡ Local p k)) ⊎ (((j : ℕ) × (c ≡ node.Entry p j)) ⊎ ((e : ℕ) × (l : ℕ) × (r : ℕ) × (c ≡ Match p e l r)))) → (place (form c f) ≡ p) × (meets_rule Γ (form c f) T ≡ meets_equal Γ (form c f) T)
equal_rule Γ T f (inl x) = rw x.1 (refl, refl)
equal_rule Γ T f (inr (inl x)) = rw x.1 (refl, refl)
equal_rule Γ T f (inr (inr (inl x))) = rw x.1 (refl, refl)
equal_rule Γ T f (inr (inr (inr x))) = rw x.3 (refl, refl)

-- an injection meets its side of a sum
pub at_side : {S : System} {R : List Entry} {w : Spot} {x z : Arena} {r : Result ℕ Fault} (side : Side) (Γ : List Bound) (E T : Term) → Ran S R w (expect (parts Sum T) (λ sides. premise (meets Γ E (chosen side sides)) (λ _. gets T))) x z r → Ran S R w (meets_side side Γ E T) x z r
at_side First Γ E T d = d
at_side Second Γ E T d = d

side_term : (side : Side) (a : Arena) (x : ℕ × ℕ) → term a (chosen side x) ≡ chosen side (pair a x)
side_term First a x = refl
side_term Second a x = refl

pub side_met : {S : System} {R : List Entry} {w : Spot} {Γ : List Bound} {E : Term} {i : ℕ} {x z : Arena} {r : Result ℕ Fault} (side : Side) (s : ℕ × ℕ) → i ≡ chosen side s → Leads S R w (premise (meets Γ E (term x i))) (term z) suc x z r → Leads S R w (premise (meets Γ E (chosen side (pair x s)))) (term z) suc x z r
side_met {x = x} side s e d = rw (← side_term side x s, ← e) d

-- what comparing has shown
pub when_true : {b : Bool} (P Q : Type 0) → b ≡ true → MatchBool b P Q → P
when_true P Q e h = rw e at h

pub when_false : {b : Bool} (P Q : Type 0) → b ≡ false → MatchBool b P Q → Q
when_false P Q e h = rw e at h
