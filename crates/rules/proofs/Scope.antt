-- What is derived of terms whose locals have their binders has no other locals.
use Rattle.std.proofs.Common.{◌≡◌, ℕ, zero, suc, ◌+◌, Bool, true, false, cond, List, [], ◌∷◌, length, Some, None, Option, sym, refl, ap, subst, arith}
use Rattle.std.specs.List.{slice_get}
use Rattle.term.specs.declared.node.Unary.{Unary}
use Rattle.term.specs.declared.node.Unary.TheVariants.{Inl, Inr}
use Rattle.term.specs.declared.node.Binary.{Binary}
use Rattle.term.specs.declared.node.Binary.TheVariants.{Pi, Exists, Sum}
use Rattle.term.specs.Forms.{binds, binds_last}
use Rattle.term.specs.Term.{Term, sort, local, entry, unary, binary, choice, closed, all_closed, lift, lower, put}
use Rattle.term.specs.Cells.{Bound, bindings}
use Rattle.term.proofs.Lifting.{lift_closed, closed_lift}
use Rattle.term.proofs.Putting.{put_closed, lower_closed}
use Rattle.rules.specs.Rules.{Entry, Judgement, has, meets, gives, Question, Premises, conclude, refuse, pay, ask, premise, same, gets, on, expect}
use Rattle.rules.specs.Rules as r
use Rattle.rules.specs.declared.refusal.Reason.{Reason}
use Rattle.rules.specs.Derivation.{System, Derives, rule_use, Chain, done, paid, told, proved, equal}
use Rattle.rules.specs.Scope.{closed_value, Sealed, Bounded, Fixed, Scoped, depth}

pub record Shut (d : ℕ) (t : Term) : Type 0 where
  pub is : closed d t ≡ true

shut : (d : ℕ) (t : Term) → closed d t ≡ true → Shut d t
shut d t e = grind arith

at_depth : {m n : ℕ} {t : Term} → m ≡ n → Shut m t → Shut n t
at_depth e h = grind arith

-- k binders more, in a form that computes
abbrev more : ℕ → ℕ → ℕ
more zero d = d
more (suc k) d = suc (more k d)

more_plus : (k d : ℕ) → more k d ≡ k + d
more_plus zero d = omega arith
more_plus (suc k) d = grind (arith, more_plus k d)

module _ {d p : ℕ} where
  shut_sort : {s : ℕ} → Shut d (sort p s)
  shut_sort = record { is = refl }

  up : (u : Unary) {E : Term} → Shut (more (binds u) d) E → Shut d (unary p u E)
  up u e = grind (arith, more_plus)

  one : {u : Unary} {E : Term} → Shut d (unary p u E) → Shut (more (binds u) d) E
  one e = grind (arith, more_plus)

  fst_of : {b : Binary} {E F : Term} → Shut d (binary p b E F) → Shut d E
  fst_of e = grind arith

  snd_of : {b : Binary} {E F : Term} → Shut d (binary p b E F) → Shut (more (binds_last b) d) F
  snd_of e = grind (arith, more_plus)

  two : (b : Binary) {E F : Term} → Shut d E → Shut (more (binds_last b) d) F → Shut d (binary p b E F)
  two b e f = grind (arith, more_plus)

  three : {E F G : Term} → Shut d E → Shut (suc d) F → Shut (suc d) G → Shut d (choice p E F G)
  three e f g = grind arith

  of_three : {E F G : Term} → Shut d (choice p E F G) → Shut d E × Shut (suc d) F × Shut (suc d) G
  of_three e = grind arith

-- what lifting, putting in and lowering leave
lifted : {m : ℕ} {t : Term} (n d : ℕ) → m + n ≡ d → Shut m t → Shut d (lift n 0 t)
lifted {m} {t} n d e h = at_depth e (shut (m + n) (lift n 0 t) (lift_closed n m 0 t h.is))

wide : {t : Term} (n : ℕ) → Shut 0 t → Shut n t
wide {t} n h = subst (λ u. Shut n u) (closed_lift n 0 t h.is) (lifted n n (omega arith) h)

all_one : (d : ℕ) (v : Term) → closed d v ≡ true → all_closed d (v ∷ []) ≡ true
all_one d v h = grind arith

all_two : (d : ℕ) (v w : Term) → closed d v ≡ true → closed d w ≡ true → all_closed d (v ∷ (w ∷ [])) ≡ true
all_two d v w h k = grind arith

put_one : {d : ℕ} {v t : Term} → Shut d v → Shut (suc d) t → Shut d (put (v ∷ []) 0 t)
put_one {d} {v} {t} h e = at_depth (omega arith) (shut (d + 0) (put (v ∷ []) 0 t) (put_closed (v ∷ []) d 0 t (all_one d v h.is) (at_depth {n = d + 0 + 1} (omega arith) e).is))

put_two : {d : ℕ} {v w t : Term} → Shut d v → Shut d w → Shut (suc (suc d)) t → Shut d (put (v ∷ (w ∷ [])) 0 t)
put_two {d} {v} {w} {t} h k e = at_depth (omega arith) (shut (d + 0) (put (v ∷ (w ∷ [])) 0 t) (put_closed (v ∷ (w ∷ [])) d 0 t (all_two d v w h.is k.is) (at_depth {n = d + 0 + 2} (omega arith) e).is))

lowered_to : {t u : Term} (n d : ℕ) → lower n 0 t ≡ Some u → Shut (more n d) t → Shut d u
lowered_to {t} {u} n d q e = at_depth (omega arith) (shut (d + 0) u (lower_closed n d 0 t u q (at_depth {n = d + 0 + n} (let m = more_plus n d in omega (arith, m)) e).is))

part_shut : {d : ℕ} (u : Unary) (t : Term) {x : Term} → r.part u t ≡ Some x → Shut d t → Shut (more (binds u) d) x
part_shut u t q e = grind arith

parts_shut : {d : ℕ} (b : Binary) (t : Term) {x : Term × Term} → r.parts b t ≡ Some x → Shut d t → Shut d x.0 × Shut (more (binds_last b) d) x.1
parts_shut b t q e = grind arith

-- contexts and entries
pub record In (Γ : List Bound) : Type 0 where
  pub is : Bounded Γ

pub record Fix (Δ : List (Option Term)) : Type 0 where
  pub is : Fixed Δ

cons : {Γ : List Bound} {P : Term} → In Γ → Shut (length Γ) P → In (record { type = P; value = None } ∷ Γ)
cons g p = grind arith

cons_value : {Γ : List Bound} {P v : Term} → In Γ → Shut (length Γ) P → Shut (length Γ) v → In (record { type = P; value = Some v } ∷ Γ)
cons_value g p v = grind arith

push : {Δ : List (Option Term)} → Fix Δ → Fix (None ∷ Δ)
push i = record { is = (refl, i.is) }

length_bindings : (Γ : List Bound) → length (bindings Γ) ≡ length Γ
length_bindings [] = refl
length_bindings (b ∷ Γ) = ap suc (length_bindings Γ)

fixed : (Γ : List Bound) → Bounded Γ → Fixed (bindings Γ)
fixed [] h = tt
fixed (b ∷ Γ) h = grind (arith, fixed Γ h.2, length_bindings)

bound_at : (Γ : List Bound) (k : ℕ) {b : Bound} → Bounded Γ → slice_get Γ k ≡ Some b → (m : ℕ) × (m + (k + 1) ≡ length Γ) × Shut m b.type
bound_at [] k h e = cc
bound_at (c ∷ Γ) zero h e = grind arith
bound_at (c ∷ Γ) (suc k) h e = grind (arith, bound_at Γ k h.2 e)

fixed_at : (Δ : List (Option Term)) (k : ℕ) {v : Term} → Fixed Δ → slice_get Δ k ≡ Some (Some v) → (m : ℕ) × (m + (k + 1) ≡ length Δ) × Shut m v
fixed_at [] k h e = cc
fixed_at (c ∷ Δ) zero h e = grind arith
fixed_at (c ∷ Δ) (suc k) h e = grind (arith, fixed_at Δ k h.1 e)

sealed_at : (es : List Entry) (j : ℕ) {e : Entry} → Sealed es → slice_get es j ≡ Some e → Shut 0 e.type × (closed_value 0 e.value ≡ true)
sealed_at [] j h q = cc
sealed_at (c ∷ es) zero h q = grind arith
sealed_at (c ∷ es) (suc j) h q = sealed_at es j h.2 q

abbrev Scope : Judgement → Type 0
Scope (has Γ E) = In Γ × Shut (length Γ) E
Scope (meets Γ E P) = In Γ × Shut (length Γ) E × Shut (length Γ) P
Scope (gives p Δ E) = Fix Δ × Shut (length Δ) E

-- premises about closed terms, whose conclusions are closed
pub data Tame (d : ℕ) : Premises → Type 0 where
  ends : {t : Term} {v : Option Term} → Shut d t → Tame d (conclude t v)
  stops : {x : Reason} → Tame d (refuse x)
  pays : {m : ℕ} {c : Premises} → Tame d c → Tame d (pay m c)
  asks : {q : Question} {k : ℕ → Premises} → ((s : ℕ) → Tame d (k s)) → Tame d (ask q k)
  needs : {j : Judgement} {k : Term → Premises} → Scope j → ((u : Term) → Shut (depth j) u → Tame d (k u)) → Tame d (premise j k)
  sames : {a b : Term} {c : Premises} → Tame d c → Tame d (same a b c)

module _ {d : ℕ} where
  opts : {A : Type 0} (m : Option A) (c : Premises) (f : A → Premises) → Tame d c → ((x : A) → m ≡ Some x → Tame d (f x)) → Tame d (on m c f)
  opts m c f a b = grind arith

  conds : (b : Bool) (c e : Premises) → Tame d c → Tame d e → Tame d (cond b c e)
  conds true c e a b = a
  conds false c e a b = b

  lowers : (n m : ℕ) (t : Term) (f : Term → Premises) → Shut (more n m) t → ((u : Term) → Shut m u → Tame d (f u)) → Tame d (r.lowering n t f)
  lowers n m t f h k = grind (arith, opts, stops, pays, lowered_to)

  module _ {Γ : List Bound} (g : In Γ) where
    sorted : {E : Term} (f : ℕ → Premises) → Shut (length Γ) E → ((s : ℕ) → Tame d (f s)) → Tame d (r.has_a_sort Γ E f)
    sorted f e h = grind (arith, needs, opts, stops)

    parted : {E : Term} (b : Binary) (f : Term × Term → Premises) → Shut (length Γ) E → ((x : Term × Term) → Shut (length Γ) x.0 → Shut (more (binds_last b) (length Γ)) x.1 → Tame d (f x)) → Tame d (r.has_parts Γ b E f)
    parted b f e h = grind (arith, needs, opts, stops, parts_shut)

    forms : {p : ℕ} {E : Term} {k : Term → Premises} → Shut (length Γ) E → ((u : Term) → Shut (length Γ) u → Tame d (k u)) → Tame d (premise (gives p (bindings Γ) E) k)
    forms e h = needs (record { is = fixed Γ g.is }, at_depth (sym (length_bindings Γ)) e) (λ u q. h u (at_depth (length_bindings Γ) q))

    fills : {p : ℕ} {E Q : Term} {k : Term → Premises} → Shut (length Γ) E → Shut (suc (length Γ)) Q → ((u : Term) → Shut (length Γ) u → Tame d (k u)) → Tame d (r.form_with p Γ E Q k)
    fills e q h = pays (forms (put_one e q) h)

    arms : {P E : Term} (f : Term → Premises) → Shut (length Γ) P → Shut (suc (length Γ)) E → ((u : Term) → Shut (length Γ) u → Tame d (f u)) → Tame d (r.arm Γ P E f)
    arms f p e h = pays (needs (cons g p, e) (λ R q. lowers 1 (length Γ) R f q h))

by : {d : ℕ} {c e : Premises} → ◌≡◌ {A = Option Premises} (Some c) (Some e) → Tame d c → Tame d e
by q h = grind arith

-- what settles the premises of a rule
ruleset tame = (ends, stops, pays, asks, needs, sames, opts, conds, lowers, sorted, parted, forms, fills, arms, part_shut, parts_shut, lifted, wide, put_one, put_two, cons, cons_value, push, shut_sort, up, one, fst_of, snd_of, two, three, of_three, at_depth, bound_at, fixed_at, sealed_at, by)

module _ (es : List Entry) (sealed : Sealed es) where
  module _ {Γ : List Bound} (g : In Γ) where
    has_join : {p s t : ℕ} → Tame (length Γ) (r.has_join p s t)
    has_join = grind (arith, tame)

    has_former : {p : ℕ} {A B : Term} → Shut (length Γ) A → Shut (suc (length Γ)) B → Tame (length Γ) (r.has_former p Γ A B)
    has_former a b = sorted g _ a (λ s. forms g a (λ P p. pays (sorted (cons g p) _ b (λ t. has_join))))

    has_sum : {p : ℕ} {A B : Term} → Shut (length Γ) A → Shut (length Γ) B → Tame (length Γ) (r.has_sum p Γ A B)
    has_sum a b = grind (arith, sorted, has_join)

    has_typed : {p : ℕ} {T E : Term} → Shut (length Γ) T → Shut (suc (length Γ)) E → Tame (length Γ) (r.has_typed p Γ T E)
    has_typed t e = sorted g _ t (λ s. forms g t (λ P p. pays (needs (cons g p, e) (λ Q q. ends (two Pi p q)))))

    has_app : {p : ℕ} {E F : Term} → Shut (length Γ) E → Shut (length Γ) F → Tame (length Γ) (r.has_app p Γ E F)
    has_app e f = parted g Pi _ e (λ x p q. needs (g, f, p) (λ _ _. fills g f q (λ u h. ends h)))

    has_first : {E : Term} → Shut (length Γ) E → Tame (length Γ) (r.has_first Γ E)
    has_first e = grind (arith, tame)

    has_second : {p : ℕ} {E : Term} → Shut (length Γ) E → Tame (length Γ) (r.has_second p Γ E)
    has_second e = grind (arith, parted, fills, up, ends)

    has_unpack : {E F : Term} → Shut (length Γ) E → Shut (suc (suc (length Γ))) F → Tame (length Γ) (r.has_unpack Γ E F)
    has_unpack e f = parted g Exists _ e (λ x p q. pays (pays (needs (cons (cons g p) q, f) (λ R h. lowers 2 (length Γ) R _ h (λ u k. ends k)))))

    has_let : {p : ℕ} {E F : Term} → Shut (length Γ) E → Shut (suc (length Γ)) F → Tame (length Γ) (r.has_let p Γ E F)
    has_let e f = needs (g, e) (λ P p. forms g e (λ v h. pays (needs (cons_value g p h, f) (λ Q q. lowers 1 (length Γ) Q _ q (λ u k. ends k)))))

    has_ascription : {E : Term} (p : ℕ) (T : Term) → Shut (length Γ) E → Shut (length Γ) T → Tame (length Γ) (r.has_ascription p Γ E T)
    has_ascription p T e t =
        opts (r.as_sort T) _ _ (sorted g _ t (λ s. forms g t (λ P p. needs (g, e, p) (λ _ _. ends p))))
        (λ s _. needs (g, e, t) (λ _ _. ends t))

    has_match : {E F G : Term} → Shut (length Γ) E → Shut (suc (length Γ)) F → Shut (suc (length Γ)) G → Tame (length Γ) (r.has_match Γ E F G)
    has_match e f h = parted g Sum _ e (λ x p q. arms g _ p f (λ R a. arms g _ q h (λ S b. sames (ends a))))

    has_tame : (E : Term) {c : Premises} → Shut (length Γ) E → r.has_rule es Γ E ≡ Some c → Tame (length Γ) c
    has_tame (sort p s) e q = grind (arith, tame)
    has_tame (local p k) e q = grind (arith, tame)
    has_tame (entry p j) e q = grind (arith, tame)
    has_tame (unary p u E) e q = grind (arith, by, one, has_first, has_second)
    has_tame (binary p b E F) e q = grind (arith, by, fst_of, snd_of, has_former, has_typed, has_app, has_unpack, has_sum, has_ascription, has_let)
    has_tame (choice p E F G) e q = grind (arith, by, of_three, has_match)

    meets_pair : {E F : Term} (p : ℕ) (b : Binary) (S : Term) → binds_last b ≡ 1 → Shut (length Γ) E → Shut (length Γ) F → Shut (length Γ) S → Tame (length Γ) (r.meets_pair b p Γ E F S)
    meets_pair p b S n e f s =
        opts (r.parts b S) _ _ stops (λ x q.
        let y = parts_shut b S q s in
        needs (g, e, y.0) (λ _ _. fills g e (at_depth (ap (λ k. more k (length Γ)) n) y.1) (λ R h. needs (g, f, h) (λ _ _. ends s))))

    meets_tame : (E S : Term) → Shut (length Γ) E → Shut (length Γ) S → Tame (length Γ) (r.meets_rule Γ E S)
    meets_tame (sort p s) S e h = grind (arith, tame)
    meets_tame (local p k) S e h = grind (arith, tame)
    meets_tame (entry p j) S e h = grind (arith, tame)
    meets_tame (unary p u E) S e h = grind (arith, tame)
    meets_tame (binary p b E F) S e h = grind (arith, tame, meets_pair)
    meets_tame (choice p E F G) S e h = grind (arith, tame)

  module _ {Δ : List (Option Term)} (i : Fix Δ) where
    value_shut : (v : Option Term) {x : Term} → closed_value 0 v ≡ true → v ≡ Some x → Shut (length Δ) x
    value_shut v e f = grind (arith, tame)

    gives_entry : {E : Term} (j : ℕ) → Shut (length Δ) E → Tame (length Δ) (r.gives_entry es j E)
    gives_entry j e =
        opts (slice_get es j) _ _ stops (λ a q. opts a.value _ _ (ends e) (λ v h. ends (value_shut a.value (sealed_at es j sealed q).1 h)))

    gives_fun : {p : ℕ} {E : Term} → Shut (suc (length Δ)) E → Tame (length Δ) (r.gives_fun p Δ E)
    gives_fun e = grind (arith, tame)

    gives_under : {p : ℕ} {A B : Term} (b : Binary) → binds_last b ≡ 1 → Shut (length Δ) A → Shut (suc (length Δ)) B → Tame (length Δ) (r.gives_under p Δ b A B)
    gives_under b e f h = grind (arith, tame)

    gives_beside : {p : ℕ} {E F : Term} (b : Binary) → binds_last b ≡ 0 → Shut (length Δ) E → Shut (length Δ) F → Tame (length Δ) (r.gives_beside p Δ b E F)
    gives_beside b e f h = grind (arith, tame)

    fill_one : {p : ℕ} {v E : Term} → Shut (length Δ) v → Shut (suc (length Δ)) E → Tame (length Δ) (r.gives_filled p Δ (v ∷ []) E)
    fill_one e f = grind (arith, tame)

    fill_two : {p : ℕ} {v w E : Term} → Shut (length Δ) v → Shut (length Δ) w → Shut (suc (suc (length Δ))) E → Tame (length Δ) (r.gives_filled p Δ (v ∷ (w ∷ [])) E)
    fill_two e f h = grind (arith, tame)

    kept : {c : Premises} (t : Term) → Tame (length Δ) c → Tame (length Δ) (r.kept es Δ t c)
    kept t e = grind (arith, tame)

    gives_app : {p : ℕ} {E F : Term} → Shut (length Δ) E → Shut (length Δ) F → Tame (length Δ) (r.gives_app es p Δ E F)
    gives_app e f = grind (arith, needs, opts, kept, ends, two, fill_one, part_shut)

    gives_let : {p : ℕ} {E F : Term} → Shut (length Δ) E → Shut (suc (length Δ)) F → Tame (length Δ) (r.gives_let p Δ E F)
    gives_let e f = grind (arith, tame)

    gives_first : {p : ℕ} {E : Term} → Shut (length Δ) E → Tame (length Δ) (r.gives_first es p Δ E)
    gives_first e = grind (arith, tame)

    gives_second : {p : ℕ} {E : Term} → Shut (length Δ) E → Tame (length Δ) (r.gives_second es p Δ E)
    gives_second e = grind (arith, tame)

    gives_wrap : {p : ℕ} {E : Term} (u : Unary) → binds u ≡ 0 → Shut (length Δ) E → Tame (length Δ) (r.gives_wrap p Δ u E)
    gives_wrap u e f = grind (arith, tame)

    gives_unpack : {p : ℕ} {E F : Term} → Shut (length Δ) E → Shut (suc (suc (length Δ))) F → Tame (length Δ) (r.gives_unpack es p Δ E F)
    gives_unpack e f = grind (arith, needs, opts, kept, pays, push, ends, two, parts_shut, fill_two)

    gives_match : {p : ℕ} {E F G : Term} → Shut (length Δ) E → Shut (suc (length Δ)) F → Shut (suc (length Δ)) G → Tame (length Δ) (r.gives_match es p Δ E F G)
    gives_match e f g =
        needs (i, e) (λ v h.
        opts (r.part Inl v) _ _
        (opts (r.part Inr v) _ _
        (kept v (pays (needs (push i, f) (λ x a. pays (needs (push i, g) (λ y b. ends (three h a b)))))))
        (λ x q. fill_one (part_shut Inr v q h) g))
        (λ x q. fill_one (part_shut Inl v q h) f))

    gives_tame : (w : ℕ) (E : Term) → Shut (length Δ) E → Tame (length Δ) (r.gives_rule es w Δ E)
    gives_tame w (sort p s) e = grind (arith, tame)
    gives_tame w (local p k) e = grind (arith, tame)
    gives_tame w (entry p j) e = grind (arith, tame, gives_entry)
    gives_tame w (unary p u E) e = grind (arith, one, gives_fun, gives_first, gives_second, gives_wrap)
    gives_tame w (binary p b E F) e = grind (arith, ends, needs, fst_of, snd_of, gives_under, gives_beside, gives_fun, gives_app, gives_unpack, gives_let)
    gives_tame w (choice p E F G) e = grind (arith, of_three, gives_match)

  rule_tame : (j : Judgement) {c : Premises} → Scope j → r.rule es j ≡ Some c → Tame (depth j) c
  unfolding r.rule
  rule_tame (has Γ E) h q = has_tame h.0 E h.1 q
  rule_tame (meets Γ E S) h q = by q (meets_tame h.0 E S h.1 h.2)
  rule_tame (gives p Δ E) h q = by q (gives_tame h.0 p E h.1)

  module _ (S : System) where
    mutual
      derives_shut : {j : Judgement} {t : Term} {n : ℕ} → Scope j → Derives S es j t n → Shut (depth j) t
      derives_shut {j = j} h (rule_use c q d) = chain_shut (rule_tame j h q) d

      chain_shut : {d : ℕ} {c : Premises} {t : Term} {v : Option Term} {n : ℕ} → Tame d c → Chain S es c t v n → Shut d t
      chain_shut (ends h) done = h
      chain_shut (pays h) (paid d) = chain_shut h d
      chain_shut (asks h) (told {r = s} e d) = chain_shut (h s) d
      chain_shut (needs s h) (proved {u = u} p d) = chain_shut (h u (derives_shut s p)) d
      chain_shut (sames h) (equal e d) = chain_shut h d

scope : (j : Judgement) → Scoped j → Scope j
scope j h = grind arith

-- what is derived from sealed entries of a scoped judgement is closed
pub derives_closed : (S : System) (es : List Entry) → Sealed es → (j : Judgement) (t : Term) (n : ℕ) → Scoped j → Derives S es j t n → closed (depth j) t ≡ true
derives_closed S es s j t n h d = (derives_shut es s S (scope j h) d).is
