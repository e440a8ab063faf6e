-- How what a call has shown is put together from what its calls have shown.
use Rattle.std.proofs.Common.{◌≡◌, ℕ, ◌+◌, ◌<◌, ◌≤◌, Bool, true, false, cond, List, ◌∷◌, IsErrAnd, IfOk, Some, None, Ok, Err, Option, Result, ok_or, unwrap_or, sym, refl, ap, ◌∙◌, subst, ap₂, arith}
use Rattle.term.specs.declared.arena.Arena.{Arena}
use Rattle.term.specs.declared.faults.Spent as faults
use Rattle.term.specs.declared.node.Binary.{Binary}
use Rattle.term.specs.declared.node.Binary.TheVariants.{Pair}
use Rattle.term.specs.declared.node.Node.{Node}
use Rattle.term.specs.declared.node.Node.TheVariants.{Two, Match}
use Rattle.term.specs.Term.{Term, unary, binary, choice}
use Rattle.term.specs.Cells.{Bound, bindings, form, bound, over}
use Rattle.term.specs.State.{cells_in, term, Kept, Spends, Added, Built}
use Rattle.term.proofs.States.{still, on_to}
use Rattle.rules.specs.declared.refusal.Reason.TheVariants.{OtherForm}
use Rattle.rules.specs.Rules.{Judgement, gives, Entry, Premises, refuse, pay, premise, gets, on, parts, kept, neutral, rule, gives_rule}
use Rattle.rules.specs.Derivation.{System}
use Rattle.normal.specs.declared.halt.Halt.{Halt}
use Rattle.normal.specs.declared.halt.Halt.TheVariants.{Spent, Stuck}
use Rattle.normal.specs.declared.look.Side.{Side}
use Rattle.normal.specs.declared.look.Side.TheVariants.{First, Second}
use Rattle.normal.specs.declared.site.Site.{Site}
use Rattle.normal.specs.Views.{rows, free, entries_at, bindings_at, Within, Inner, Enters, over_both, chosen, projection, gives_side}
use Rattle.normal.specs.Runs.{Outcome, halted, outcome, at, Ends, Goes, Judges, Ran, Normalises, Applies}
use Rattle.normal.proofs.Views.{rows_kept, binding_kept}
use Rattle.normal.proofs.Steps as steps

err_within : {A E : Type 0} (Q : E → Type 0) (P : A → Type 0) (r : Result A E) → IsErrAnd r Q → IfOk r P
err_within Q P (Ok a) q = elim q [ ]
err_within Q P (Err e) q = tt

-- what `ok_or` says where there is nothing
pub unfound : {A : Type 0} {o : Option A} {e f : Halt} → o ≡ None → ◌≡◌ {A = Result A Halt} (Err e) (ok_or o f) → e ≡ f
unfound {A} {o} {e} {f} p q = let h : ◌≡◌ {A = Result A Halt} (Err e) (Err f) = q ∙ ap (λ m. ok_or m f) p in cc

-- judged of what is the same
pub like : {R R' : List Entry} {p p' : ℕ} {Δ Δ' : List (Option Term)} {E E' : Term} {x z : Arena} {r : Result ℕ Halt} → R' ≡ R → p' ≡ p → Δ' ≡ Δ → E' ≡ E → Judges R' p' Δ' E' x z r → Judges R p Δ E x z r
like a q b c d = rw (← a, ← q, ← b, ← c) d

-- judged at the site outside a binder
moved : {s t : Site} {E : Term} {y w z : Arena} {r : Result ℕ Halt} → Inner s free y w t → Normalises t E w z r → Judges (entries_at s w) s.place (None ∷ bindings_at s y) E w z r
moved {w = w} t d = like (ap (λ es. rows w es.now) t.entries) t.place (ap bindings t.context) refl d

-- normalised at a site as it was earlier
pub again : {s : Site} {x y z : Arena} {r : Result ℕ Halt} (i : ℕ) → Kept x y → Within s x → i < cells_in x → Normalises s (term y i) y z r → Judges (entries_at s x) s.place (bindings_at s x) (term x i) y z r
again {s} i k h l d = like (rows_kept s.entries.now k h.rows) refl (binding_kept s.context k h.ctx) (k.trees i l) d

-- normalised under a binder that was stepped under later
pub inner : {s t : Site} {x y w z : Arena} {r : Result ℕ Halt} (i : ℕ) → Kept x y → Within s x → i < cells_in x → Enters s free y w (Ok t) → Normalises t (term w i) w z r → Judges (entries_at s x) s.place (None ∷ bindings_at s x) (term x i) w z r
inner {s} i k h l e d =
    let m = on_to k e.kept in
    like (rows_kept s.entries.now m h.rows) refl (ap (λ Δ. None ∷ Δ) (binding_kept s.context k h.ctx)) (m.trees i l) (moved e.made.0 d)

-- normalised under two binders
pub inner2 : {s t u : Site} {x y w z : Arena} {r : Result ℕ Halt} (i : ℕ) → Within s x → i < cells_in x → Enters s free x y (Ok t) → Enters t free y w (Ok u) → Normalises u (term w i) w z r → Judges (entries_at s x) s.place (None ∷ (None ∷ bindings_at s x)) (term x i) w z r
inner2 {s} {x = x} {y = y} {w = w} i h l d e f =
    let m = on_to d.kept e.kept in
    let t = d.made.0 in
    like (ap (λ es. rows w es.now) t.entries ∙ rows_kept s.entries.now m h.rows) t.place (ap (λ Δ. None ∷ Δ) (ap bindings t.context)) (m.trees i l) (moved e.made.0 f)

-- the premises of a rule gone through later, for what was there earlier
pub later : {A : Type 0} {s : Site} {E E' : A} {x y z : Arena} {r : Result ℕ Halt} (c : List Entry → ℕ → List (Option Term) → A → Premises) → Kept x y → Within s x → E' ≡ E → Applies s (λ es p Δ. c es p Δ E') y z r → Ran (entries_at s x) s.place (c (entries_at s x) s.place (bindings_at s x) E) y z r
later {s} c k h e d = rw (← rows_kept s.entries.now k h.rows, ← binding_kept s.context k h.ctx, ← e) d

-- what was put together later is normalised
pub filled_later : {s : Site} {t : Term} {x y z : Arena} {r : Result ℕ Halt} (i : ℕ) → Kept x y → Within s x → term y i ≡ t → Normalises s (term y i) y z r → Judges (entries_at s x) s.place (bindings_at s x) t y z r
filled_later {s} i k h e d = like (rows_kept s.entries.now k h.rows) refl (binding_kept s.context k h.ctx) e d

-- a test of neutrality, earlier
pub test : {s : Site} {v : Bool} {x y : Arena} (t : Term) → Kept x y → Within s x → neutral (entries_at s y) (bindings_at s y) t ≡ v → neutral (entries_at s x) (bindings_at s x) t ≡ v
test {s} t k h e = rw (← rows_kept s.entries.now k h.rows, ← binding_kept s.context k h.ctx) e

module _ {R : List Entry} {p : ℕ} where
  pub then : {Δ : List (Option Term)} {E : Term} {k : Term → Premises} {x y z : Arena} {i : ℕ} {r : Result ℕ Halt} → Judges R p Δ E x y (Ok i) → Ran R p (k (term y i)) y z r → Ran R p (premise (gives p Δ E) k) x z r
  then d e = record {
    kept = on_to d.kept e.kept;
    fair = omega (arith, d.fair, e.fair);
    falls = omega (arith, d.falls, e.falls);
    within = e.within;
    went = λ S. steps.held (d.went S) (e.went S);
  }

  stops : {S : System} {j : Judgement} {k : Term → Premises} {b e : ℕ} (f : Halt) → Ends S R j (halted f) b e → Goes S R (at p) (premise j k) (halted f) b e
  stops Spent d = steps.ran_out d
  stops (Stuck q) d = steps.stopped d

  goes_out : {S : System} {c : Premises} {b e : ℕ} (z : Arena) (f : Halt) (r : Result ℕ Halt) → IsErrAnd r (λ y. y ≡ f) → Goes S R (at p) c (halted f) b e → Goes S R (at p) c (outcome z r) b e
  goes_out z f (Ok i) q d = elim q [ ]
  goes_out {S = S} {c = c} {b = b} {e = e} z f (Err y) q d = subst (λ g. Goes S R (at p) c (halted g) b e) (sym q) d

  -- a premise that does not hold, and `?` leaves
  pub halt : {Δ : List (Option Term)} {E : Term} {k : Term → Premises} {x y : Arena} {f : Halt} {r : Result ℕ Halt} → IsErrAnd r (λ e. e ≡ f) → Judges R p Δ E x y (Err f) → Ran R p (premise (gives p Δ E) k) x y r
  halt {y = y} {f = f} {r = r} q d = record {
    kept = d.kept;
    fair = omega (arith, d.fair);
    falls = d.falls;
    within = err_within (λ e. e ≡ f) (λ i. i < cells_in y) r q;
    went = λ S. goes_out y f r q (stops f (d.went S));
  }

  -- the last premise's answer is the chain's
  pub last : {Δ : List (Option Term)} {E : Term} {x z : Arena} {r : Result ℕ Halt} → Judges R p Δ E x z r → Ran R p (premise (gives p Δ E) gets) x z r
  last {r = Ok i} d = record { kept = d.kept; fair = omega (arith, d.fair); falls = d.falls; within = d.within; went = λ S. steps.held (d.went S) (steps.concluded refl) }
  last {r = Err f} d = record { kept = d.kept; fair = omega (arith, d.fair); falls = d.falls; within = tt; went = λ S. stops f (d.went S) }

  -- a traversal that succeeded, with its cost
  pub pays : {n : ℕ} {t : Term} {c : Premises} {x y z : Arena} {i : ℕ} {r : Result ℕ Halt} → Built x y n t (Ok i) → Ran R p c y z r → Ran R p (pay n c) x z r
  pays b d = record {
    kept = on_to b.kept d.kept;
    fair = omega (arith, b.fair, d.fair);
    falls = omega (arith, b.made.2, d.falls);
    within = d.within;
    went = λ S. steps.pays (omega (arith, b.made.2)) (d.went S);
  }

  out : {n : ℕ} {c : Premises} {x y : Arena} {r : Result ℕ Halt} → Kept x y → cells_in y + y.left ≤ cells_in x + x.left → x.left < n → IsErrAnd r (λ e. e ≡ Spent) → Ran R p (pay n c) x y r
  out {y = y} {r = r} k h l q = record {
    kept = k;
    fair = omega (arith, h);
    falls = omega (arith, h, k.long);
    within = err_within (λ e. e ≡ Spent) (λ i. i < cells_in y) r q;
    went = λ S. goes_out y Spent r q (steps.short l);
  }

  -- or ran out
  pub lacks : {n : ℕ} {t : Term} {c : Premises} {x y : Arena} {f : faults.Spent} {r : Result ℕ Halt} → IsErrAnd r (λ e. e ≡ Spent) → Built x y n t (Err f) → Ran R p (pay n c) x y r
  lacks q b = out b.kept b.fair b.made q

  -- the last act of the chain is a traversal
  pub built : {n : ℕ} {t : Term} {x y : Arena} {i : ℕ} → Built x y n t (Ok i) → Ran R p (pay n (gets t)) x y (Ok i)
  built {n} {t} {x} {y} b = record {
    kept = b.kept;
    fair = omega (arith, b.fair);
    falls = omega (arith, b.made.2);
    within = b.made.0;
    went = λ S. subst (λ u. Goes S R (at p) (pay n (gets t)) (Outcome.done u None) x.left y.left) (sym b.made.1) (steps.pays (omega (arith, b.made.2)) (steps.concluded refl));
  }

  -- a step under a binder
  pub enters : {s t : Site} {B : Bound} {c : Premises} {x y z : Arena} {r : Result ℕ Halt} → Enters s B x y (Ok t) → Ran R p c y z r → Ran R p (pay 1 c) x z r
  enters b d = record {
    kept = on_to b.kept d.kept;
    fair = omega (arith, b.fair, d.fair);
    falls = omega (arith, b.made.1, d.falls);
    within = d.within;
    went = λ S. steps.pays (omega (arith, b.made.1)) (d.went S);
  }

  pub barred : {s : Site} {B : Bound} {c : Premises} {x y : Arena} {f : faults.Spent} {r : Result ℕ Halt} → IsErrAnd r (λ e. e ≡ Spent) → Enters s B x y (Err f) → Ran R p (pay 1 c) x y r
  barred q b = out b.kept b.fair (omega (arith, b.made)) q

  -- the conclusion stands in the cell that the use of the rule has paid for
  pub stored : {c : Node} {T : Term} {x y : Arena} {i : ℕ} → form c (term x) ≡ T → Added x y c i → Ran R p (gets T) x y (Ok i)
  stored {c} {T} {x} {y} {i} e a = record {
    kept = a.kept;
    fair = omega (arith, a.len, a.left);
    falls = omega (arith, a.left);
    within = omega (arith, a.len, a.at);
    went = λ S. subst (λ u. Goes S R (at p) (gets T) (Outcome.done u None) x.left y.left) (sym (a.made ∙ e)) (steps.concluded (sym a.left));
  }

  -- of two parts, the first from earlier
  pub stored_two : {q : ℕ} {x y z : Arena} {i : ℕ} (op : Binary) (v w : ℕ) → Kept x y → v < cells_in x → Added y z (Two q op v w) i → Ran R p (gets (binary q op (term x v) (term y w))) y z (Ok i)
  stored_two {q} {x} {y} op v w k l a = stored (ap (λ P. binary q op P (term y w)) (k.trees v l)) a

  -- of three parts, the first two from earlier
  pub stored_three : {q : ℕ} {x y z w : Arena} {i : ℕ} (a b c : ℕ) → Kept x z → a < cells_in x → Kept y z → b < cells_in y → Added z w (Match q a b c) i → Ran R p (gets (choice q (term x a) (term y b) (term z c))) z w (Ok i)
  stored_three {q} {x} {y} {z} a b c k l m n h = stored (ap₂ (λ P Q. choice q P Q (term z c)) (k.trees a l) (m.trees b n)) h

  -- the conclusion stands there
  pub concluded : {T : Term} {x : Arena} {i : ℕ} → T ≡ term x i → i < cells_in x → Ran R p (gets T) x x (Ok i)
  concluded {T} {x} {i} e l = record {
    kept = still x;
    fair = omega arith;
    falls = omega arith;
    within = l;
    went = λ S. subst (λ u. Goes S R (at p) (gets u) (Outcome.done (term x i) None) x.left x.left) (sym e) (steps.concluded refl);
  }

  -- no rule fits
  pub stuck : {x : Arena} {f : Halt} {r : Result ℕ Halt} → IsErrAnd r (λ e. e ≡ f) → f ≡ Stuck p → Ran R p (refuse OtherForm) x x r
  stuck {r = Ok i} q e = elim q [ ]
  stuck {x = x} {r = Err g} q e = record { kept = still x; fair = omega arith; falls = omega arith; within = tt; went = λ S. rw (q, e) (steps.refuses refl) }

  -- one of two
  pub side_there : {x : Arena} (side : Side) (w : ℕ × ℕ) → over_both (Some w) ≤ cells_in x → Ran R p (gets (chosen side (term x w.0, term x w.1))) x x (Ok (chosen side w))
  side_there First w l = concluded refl (omega arith)
  side_there Second w l = concluded refl (omega arith)

  -- a value that is shared, or the term itself
  pub shares : {x : Arena} {i j : ℕ} (v : Option ℕ) → j ≡ unwrap_or v i → i < cells_in x → over v ≤ cells_in x → Ran R p (on (bound v (term x)) (gets (term x i)) gets) x x (Ok j)
  shares None e l h = rw e (concluded refl l)
  shares (Some k) e l h = rw e (concluded refl (omega arith))

  -- tests in the chain
  pub so : {b : Bool} {c : Premises} (d : Premises) {x z : Arena} {r : Result ℕ Halt} → b ≡ true → Ran R p c x z r → Ran R p (cond b c d) x z r
  so f e d = rw e d

  pub otherwise : {b : Bool} {d : Premises} (c : Premises) {x z : Arena} {r : Result ℕ Halt} → b ≡ false → Ran R p d x z r → Ran R p (cond b c d) x z r
  otherwise f e d = rw e d

  pub some : {A : Type 0} {m : Option A} {v : A} (c : Premises) (f : A → Premises) {x z : Arena} {r : Result ℕ Halt} → m ≡ Some v → Ran R p (f v) x z r → Ran R p (on m c f) x z r
  some c f e d = rw e d

  pub none : {A : Type 0} {m : Option A} {c : Premises} (f : A → Premises) {x z : Arena} {r : Result ℕ Halt} → m ≡ None → Ran R p c x z r → Ran R p (on m c f) x z r
  none f e d = rw e d

known : (es : List Entry) (p : ℕ) (Δ : List (Option Term)) (E : Term) → rule es (gives p Δ E) ≡ Some (gives_rule es p Δ E)
unfolding rule
known es p Δ E = refl

-- the use of a rule is paid, and its premises were gone through
pub ruled : {s : Site} {c : Premises} {u : Unit {0}} {x y z : Arena} {r : Result ℕ Halt} (i : ℕ) → Spends x y 1 (Ok u) → Within s x → i < cells_in x → gives_rule (entries_at s y) s.place (bindings_at s y) (term y i) ≡ c → Ran (entries_at s y) s.place c y z r → Normalises s (term x i) x z r
ruled {s} {x = x} {y = y} i p h l q d =
    like (rows_kept s.entries.now p.kept h.rows) refl (binding_kept s.context p.kept h.ctx) (p.kept.trees i l)
    (record {
      kept = on_to p.kept d.kept;
      fair = omega (arith, p.len, p.made, d.fair);
      falls = omega (arith, p.made, d.falls);
      within = d.within;
      went = λ S. steps.by_rule (known (entries_at s y) s.place (bindings_at s y) (term y i) ∙ ap Some q) (omega (arith, p.made)) (d.went S);
    })

-- it cannot be paid
pub broke : {R : List Entry} {p : ℕ} {Δ : List (Option Term)} {E : Term} {f : faults.Spent} {x y : Arena} {r : Result ℕ Halt} → IsErrAnd r (λ e. e ≡ Spent) → Spends x y 1 (Err f) → Judges R p Δ E x y r
broke {r = Ok i} q s = elim q [ ]
broke {R} {p} {Δ} {E} {f} {x} {y} {r = Err g} q s = record {
  kept = s.kept;
  fair = omega (arith, s.len, s.fair);
  falls = s.fair;
  within = tt;
  went = λ S. subst (λ h. Ends S R (gives p Δ E) (halted h) x.left y.left) (sym q) (steps.broke (known R p Δ E) (omega (arith, s.made.1)));
}

-- the rule of a projection
pub at_side : {R : List Entry} {p : ℕ} {Δ : List (Option Term)} {E : Term} {x z : Arena} {r : Result ℕ Halt} (side : Side) → Ran R p (premise (gives p Δ E) (λ v. on (parts Pair v) (kept R Δ v (gets (unary p (projection side) v))) (λ w. gets (chosen side w)))) x z r → Ran R p (gives_side side R p Δ E) x z r
at_side First d = d
at_side Second d = d
