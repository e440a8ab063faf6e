-- How the judging of a statement is put together.
use Rattle.std.proofs.Common.{◌≡◌, ℕ, ◌+◌, ◌<◌, ◌≤◌, ◌⊎◌, inl, inr, true, false, is_ok, List, [], IsErrAnd, None, Ok, Err, vec_items, Option, Result, sym, refl, ap, ◌∙◌, subst, ap₂, arith}
use Rattle.term.specs.declared.arena.Arena.{Arena}
use Rattle.term.specs.declared.faults.Spent as faults
use Rattle.term.specs.declared.node.Stored.{Stored}
use Rattle.term.specs.Term.{Term, cells, closed}
use Rattle.term.specs.Cells.{bindings}
use Rattle.term.specs.Layout.{cells_of, Settled}
use Rattle.term.specs.State.{cells_in, term, ctx, Kept, Spends, Rewound}
use Rattle.term.proofs.Trees.{chain_none}
use Rattle.term.proofs.States.{on_to}
use Rattle.script.specs.declared.statement.StatementKind.{StatementKind}
use Rattle.script.specs.declared.statement.StatementKind.TheVariants.{Def, Eval}
use Rattle.rules.specs.Rules.{Judgement, has, Entry, Premises, has_a_sort}
use Rattle.rules.specs.Derivation.{System, Spot, Chain}
use Rattle.rules.specs.Scope.{Sealed, Scoped, depth}
use Rattle.rules.specs.Statement.{settles, judged, spot_of}
use Rattle.rules.specs.Laws.{PremiseLaws}
use Rattle.rules.proofs.Together.{laws}
use Rattle.rules.proofs.Scope.{derives_closed}
use Rattle.normal.specs.Runs.{Outcome, Ends, Goes}
use Rattle.normal.specs.declared.halt.Halt.{Halt}
use Rattle.normal.specs.Runs as n
use Rattle.normal.proofs.Steps as steps
use Rattle.kernel.specs.declared.fault.Fault.{Fault}
use Rattle.kernel.specs.declared.fault.Fault.TheVariants.{Spent, Refused}
use Rattle.kernel.specs.Faults.{typing, faulted}
use Rattle.kernel.specs.Runs.{Judges, Leads}
use Rattle.kernel.specs.Judging.{Stands, Restored, Concludes, Accepted, Stopped, Judged, Exact}

stands_from : {x y z : Arena} {mark : ℕ} {s : Stored} → Kept x y → mark ≤ cells_in x → Stands y z mark s → Stands x z mark s
stands_from k h d = record {
  limit = d.limit ∙ k.limit;
  len = d.len;
  low = d.low;
  low_value = d.low_value;
  trees = λ i l. d.trees i l ∙ k.trees i (omega arith);
  chains = λ o l. d.chains o l ∙ k.chains o (omega arith);
}

module _ {S : System} {R : List Entry} {w : Spot} where
  -- the first premises held, and the rest was gone through
  pub then_all : {A X : Type 0} {C : (X → Premises) → Premises} {v : A → X} {tip : A → ℕ} {k : X → Premises} {x y z : Arena} {mark : ℕ} {i : A} {r : Result Stored Fault} → mark ≤ cells_in x → Leads S R w C v tip x y (Ok i) → Concludes S R w (k (v i)) y z mark r → Concludes S R w (C k) x z mark r
  then_all {k = k} {r = Ok s} h d e = record { made = (stands_from d.kept h e.made.0, d.went k _ _ e.made.1) }
  then_all {k = k} {r = Err f} h d e = record { made = (on_to d.kept e.made.0, d.went k _ _ e.made.1) }

  pub halt_all : {A X : Type 0} {C : (X → Premises) → Premises} {v : A → X} {tip : A → ℕ} {k : X → Premises} {x y : Arena} {mark : ℕ} {f : Fault} {r : Result Stored Fault} → IsErrAnd r (λ e. e ≡ f) → Leads S R w C v tip x y (Err f) → Concludes S R w (C k) x y mark r
  halt_all {r = Ok s} q d = elim q [ ]
  halt_all {C = C} {k = k} {x = x} {y = y} {r = Err g} q d = record { made = (d.kept, subst (λ h. Goes S R w (C k) (faulted h) x.left y.left) (sym q) (d.went k)) }

  -- said of earlier entries and premises that are the same
  pub as_before : {R' : List Entry} {c c' : Premises} {x z : Arena} {mark : ℕ} {r : Result Stored Fault} → R' ≡ R → c' ≡ c → Concludes S R' w c' x z mark r → Concludes S R w c x z mark r
  as_before a b d = rw (← a, ← b) d

  -- the last step of a statement
  pub unpaid : {t : Term} {v : Option Term} {x y : Arena} {mark : ℕ} {f : faults.Spent} {r : Result Stored Fault} → IsErrAnd r (λ e. e ≡ Spent) → Spends x y 1 (Err f) → Concludes S R w (settles t v) x y mark r
  unpaid {r = Ok s} q d = elim q [ ]
  unpaid {t = t} {v = v} {x = x} {y = y} {r = Err g} q d = record { made = (d.kept, subst (λ h. Goes S R w (settles t v) (faulted h) x.left y.left) (sym q) (steps.short (omega (arith, d.made.1)))) }

  pub unstored : {t t' : Term} {v v' : Option Term} {u : Unit {0}} {x y z : Arena} {mark : ℕ} {r : Result Stored Fault} → IsErrAnd r (λ e. e ≡ Spent) → t ≡ t' → v ≡ v' → Spends x y 1 (Ok u) → Kept y z → y.left < cells t + cells_of v → Concludes S R w (settles t' v') x z mark r
  unstored {r = Ok s} q a b d k l = elim q [ ]
  unstored {t = t} {v = v} {x = x} {z = z} {r = Err g} q a b d k l = rw (← a, ← b) (record { made = (on_to d.kept k, subst (λ h. Goes S R w (settles t v) (faulted h) x.left z.left) (sym q) (steps.short (omega (arith, d.made)))) })

  pub all_stored : {t t' : Term} {v v' : Option Term} {u : Unit {0}} {x y z : Arena} {mark : ℕ} {s : Stored} → mark ≤ cells_in x → t ≡ t' → v ≡ v' → Spends x y 1 (Ok u) → Settled y z mark t v s → Concludes S R w (settles t' v') x z mark (Ok s)
  all_stored {t = t} {v = v} {x = x} {y = y} {z = z} {mark = mark} {s = s} h a b d e =
      rw (← a, ← b)
      (record {
        made = (
          stands_from d.kept h (record { limit = e.limit; len = e.len ∙ ap₂ (λ T V. mark + (cells T + cells_of V)) (sym e.kind) (sym e.value); low = e.low; low_value = e.low_value; trees = e.trees; chains = e.chains }),
          rw (e.kind, e.value) (steps.pays (omega (arith, d.made, e.left)) (steps.concluded refl)),
        );
      })

  derived_of : {c : Premises} {t : Term} {v : Option Term} {b e : ℕ} → Goes S R w c (Outcome.done t v) b e → (n : ℕ) × (b ≡ n + e) × Chain S R c t v n
  derived_of (Goes.derived n q d) = (n, q, d)

-- what was gone through to the end of a statement is its judging
pub accepted : {S : System} {R : List Entry} {x z : Arena} {mark : ℕ} {s : Stored} (k : StatementKind) (E : Term) → Concludes S R (spot_of E) (judged k E) x z mark (Ok s) → Accepted S R k E x z mark s
accepted k E d = let g = derived_of d.made.1 in record { stands = d.made.0; cost = g.0; counted = g.1; derived = g.2 }

stops_of : {S : System} {R : List Entry} (k : StatementKind) (E : Term) (x y z : Arena) (f : Fault) → z.left ≡ y.left → Goes S R (spot_of E) (judged k E) (faulted f) x.left y.left → Stopped S R k E x z f
stops_of k E x y z Spent q (Goes.overran d) = d
stops_of k E x y z (Refused r) q (Goes.denied n a d) = (n, omega (arith, q), d)

pub stopped : {S : System} {R : List Entry} {x y z : Arena} {mark : ℕ} {f : Fault} (k : StatementKind) (E : Term) → mark ≤ cells_in x → Concludes S R (spot_of E) (judged k E) x y mark (Err f) → Rewound y z mark → Restored x z mark × Stopped S R k E x z f
stopped {x = x} {y = y} {z = z} {f = f} k E h d w =
    let m = d.made.0 in (
      record {
        limit = sym w.kept.limit ∙ m.limit;
        len = omega (arith, w.len, m.long);
        trees = λ i l. sym (w.kept.trees i (omega (arith, w.len, m.long))) ∙ m.trees i (omega arith);
        chains = λ o l. sym (w.kept.chains o (omega (arith, w.len, m.long))) ∙ m.chains o (omega arith);
      },
      stops_of k E x y z f w.left d.made.1,
    )

module _ (S : System) (R : List Entry) (k : StatementKind) (E : Term) (x z : Arena) (mark : ℕ) where
  law : PremiseLaws S R (spot_of E) (judged k E)
  law = (laws S R).premises (spot_of E) (judged k E)

  -- so there is no other answer
  pub exact : (r : Result Stored Fault) → Judged S R k E x z mark r → Exact S R k E x.left r
  exact (Ok s) d = (
    (λ P v n h l. refl),
    (λ y n h l. absurd (law.not_both _ _ y _ n d.derived h)),
    (λ h. absurd (let q = law.passed_derived _ _ _ _ d.derived h in omega (arith, q, d.counted))),
  )
  exact (Err Spent) d = (
    (λ P v n h l. absurd (let q = law.passed_derived P v n _ h d.1 in omega (arith, q))),
    (λ y n h l. absurd (let q = law.passed_refused y n _ h d.1 in omega (arith, q))),
    (λ h. refl),
  )
  exact (Err (Refused y)) d = (
    (λ P v n h l. absurd (law.not_both P v y n _ h d.1.2)),
    (λ w n h l. ap (λ f. Err (Refused f)) (law.one_refusal y w _ n d.1.2 h).0),
    (λ h. absurd (let q = law.passed_refused y _ _ d.1.2 h in omega (arith, q, d.1.1))),
  )

-- judged, by whether there is a result
pub judged_ok : {S : System} {R : List Entry} {x z : Arena} {mark : ℕ} (k : StatementKind) (E : Term) (r : Result Stored Fault) → is_ok r ≡ true → Concludes S R (spot_of E) (judged k E) x z mark r → Judged S R k E x z mark r
judged_ok k E (Ok s) q d = accepted k E d
judged_ok k E (Err f) q d = absurd (let e : false ≡ true = q in cc)

pub judged_err : {S : System} {R : List Entry} {x y z : Arena} {mark : ℕ} (k : StatementKind) (E : Term) (r : Result Stored Fault) → is_ok r ≡ false → mark ≤ cells_in x → Concludes S R (spot_of E) (judged k E) x y mark r → Rewound y z mark → Judged S R k E x z mark r
judged_err k E (Ok s) q h d w = absurd (let e : true ≡ false = q in cc)
judged_err k E (Err f) q h d w = stopped k E h d w

-- a definition and an evaluation need the same
pub with_form : {S : System} {R : List Entry} {w : Spot} {x z : Arena} {mark : ℕ} {r : Result Stored Fault} {k : StatementKind} (E : Term) → (k ≡ Def) ⊎ (k ≡ Eval) → Concludes S R w (judged Def E) x z mark r → Concludes S R w (judged k E) x z mark r
with_form E (inl e) d = rw e d
with_form E (inr e) d = rw e d

-- at the place of a term
pub at_spot : {S : System} {R : List Entry} {A X : Type 0} {p q : ℕ} {C : (X → Premises) → Premises} {v : A → X} {tip : A → ℕ} {x y : Arena} {r : Result A Fault} → p ≡ q → Leads S R (typing p) C v tip x y r → Leads S R (typing q) C v tip x y r
at_spot e d = rw (← e) d

-- no context
pub at_none : (a : Arena) → ctx a None ≡ []
at_none a = chain_none (vec_items a.pool)

module _ {S : System} {R : List Entry} where
  -- judged in no context
  pub has_none : {E : Term} {x y : Arena} {r : Result ℕ Fault} (a : Arena) → Judges S R (has (ctx a None) E) x y r → Judges S R (has [] E) x y r
  has_none a d = rw (← at_none a) d

  pub sort_none : {A : Type 0} {w : Spot} {E : Term} {v : A → ℕ} {tip : A → ℕ} {x y : Arena} {r : Result A Fault} (a : Arena) → Leads S R w (has_a_sort (ctx a None) E) v tip x y r → Leads S R w (has_a_sort [] E) v tip x y r
  sort_none a d = rw (← at_none a) d

pub gives_none : {R : List Entry} {p : ℕ} {E : Term} {x y : Arena} {r : Result ℕ Halt} (a : Arena) → n.Judges R p (bindings (ctx a None)) E x y r → n.Judges R p [] E x y r
gives_none {R} {p} {E} {x} {y} {r} a d = subst (λ Γ. n.Judges R p (bindings Γ) E x y r) (at_none a) d

-- what was found of a closed term is closed
closed_by : {S : System} {R : List Entry} {j : Judgement} {t : Term} {v : Option Term} {b e : ℕ} → Sealed R → Scoped j → Ends S R j (Outcome.done t v) b e → closed (depth j) t ≡ true
closed_by {S} {R} {j} {t} s h (Ends.derived n q d) = derives_closed S R s j t n h d

pub type_closed : {S : System} {R : List Entry} {E : Term} {x y : Arena} {i : ℕ} → Sealed R → closed 0 E ≡ true → Judges S R (has [] E) x y (Ok i) → closed 0 (term y i) ≡ true
type_closed s h d = closed_by s (tt, h) d.went

pub form_closed : {R : List Entry} {p : ℕ} {E : Term} {x y : Arena} {i : ℕ} (S : System) → Sealed R → closed 0 E ≡ true → n.Judges R p [] E x y (Ok i) → closed 0 (term y i) ≡ true
form_closed S s h d = closed_by s (tt, h) (d.went S)
