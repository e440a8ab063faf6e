-- Putting terms for locals.
use Rattle.std.proofs.Common.{◌≡◌, ℕ, zero, suc, ◌+◌, ◌-◌, ◌<◌, ◌≤◌, true, cond, ltb, List, [], ◌∷◌, map, length, get_or, replicate, Some, sym, refl, ap, ◌∙◌, zero-add, arith}
use lib.ListN.{length-map, length-replicate}
use Rattle.term.specs.Term.{Term, sort, local, lift, lower, pick, filled, put, closed, all_closed, bare}
use Rattle.term.specs.Laws.{PutLift, PutLower, PutLiftMore, PutLifted, LiftPut, LowerPut, PutPut, PutInTurn, LowerClosed, PutClosed, ClosedPut, BarePut}
use Rattle.term.proofs.Lifting.{walks, walk_walk, lift_zero, lift_lift, lift_swap, lift_lower, lower_lift, closed_walk, walk_closed, lift_closed, bare_walk, bare_lift}

-- a local past vs
pick_past : (vs : List Term) (p k : ℕ) → length vs ≤ k → pick vs p k ≡ local p (k - length vs)
pick_past [] p k h = grind arith
pick_past (v ∷ vs) p k h = grind (arith, pick_past vs p (k - 1))

-- a local among the terms at some indices
pick_at : (f : ℕ → Term) (is : List ℕ) (p k : ℕ) → k < length is → pick (map f is) p k ≡ f (get_or is k 0)
pick_at f [] p k h = absurd (omega arith)
pick_at f (j ∷ is) p zero h = refl
pick_at f (j ∷ is) p (suc k) h = grind (arith, pick_at f is p k)

pub filled_at : (f : ℕ → Term) (is : List ℕ) (d p k : ℕ) → d ≤ k → k - d < length is → filled (map f is) d p k ≡ lift d 0 (f (get_or is (k - d) 0))
filled_at f is d p k h l = let x = pick_at f is p (k - d) l in grind arith

pub filled_past : (f : ℕ → Term) (is : List ℕ) (d p k : ℕ) → d ≤ k → length is ≤ k - d → filled (map f is) d p k ≡ local p (k - length is)
filled_past f is d p k h l =
    let n = length-map is f in
    let x = pick_past (map f is) p (k - d) (omega arith) in
    grind arith

pub put_lift_more : PutLiftMore
put_lift_more vs n d e t h h' = walk_walk _ _ _ e d d (λ j p k. grind (arith, pick_past vs p (k + (n + length vs) - (j + e)))) t

pub put_lift : PutLift
put_lift vs d t = rw zero-add at (put_lift_more vs 0 d d t (omega arith) (omega arith)) ∙ lift_zero d t

pub put_lower : PutLower
put_lower vs d t u e = ap (put vs d) (sym (lift_lower (length vs) d t u e)) ∙ put_lift vs d u

pub put_lifted : PutLifted
put_lifted vs c d e t h =
    walks _ _ _ _ (e + d) c c e (λ j p k. grind (arith, lift_lift d (j + e) 0 (j + c) (pick vs p (k - (j + e))))) t

pick_lift : (vs : List Term) (n e p k : ℕ) → lift n e (pick vs p k) ≡ pick (map (lift n e) vs) p (cond (ltb k (e + length vs)) k (k + n))
pick_lift [] n e p k = grind arith
pick_lift (v ∷ vs) n e p k = grind (arith, pick_lift vs n e p (k - 1))

pub lift_put : LiftPut
lift_put vs n d e t =
    walks _ _ _ _ (e + d) d d (e + d + length vs)
    (λ j p k. grind (arith, lift_swap n (j + d) 0 e (pick vs p (k - (j + d))), pick_lift vs n e p (k - (j + d)))) t

pick_put : (vs ws : List Term) (e p k : ℕ) → put ws e (pick vs p k) ≡ cond (ltb k (e + length vs)) (pick (map (put ws e) vs) p k) (lift e 0 (pick ws p (k - (e + length vs))))
pick_put [] ws e p k = grind arith
pick_put (v ∷ vs) ws e p k = grind (arith, pick_put vs ws e p (k - 1))

put_put_local : (vs ws : List Term) (d e p k : ℕ) → put ws (e + d) (put vs d (local p k)) ≡ put (map (put ws e) vs) d (put ws (e + d + length vs) (local p k))
put_put_local vs ws d e p k =
    let u = pick ws p (k - (e + d + length vs)) in
    let a = put_lifted ws 0 d e (pick vs p (k - d)) (omega arith) in
    let b = pick_put vs ws e p (k - d) in
    let c = lift_lift d e 0 0 u (omega arith) (omega arith) in
    let x = put_lift_more (map (put ws e) vs) (e + d) 0 d u (omega arith) (omega arith) in
    let x' = length-map vs (put ws e) in
    grind arith

pub put_put : PutPut
put_put vs ws d e t =
    walks _ _ _ _ (e + d) d d (e + d + length vs)
    (λ j p k.
    let a : j + (e + d) ≡ e + (j + d) = omega arith in
    let b : j + (e + d + length vs) ≡ e + (j + d) + length vs = omega arith in
    rw (a, b) (put_put_local vs ws (j + d) e p k)) t

pub put_in_turn : PutInTurn
put_in_turn v vs d t =
    walk_walk (filled vs) (filled (lift (length vs) 0 v ∷ [])) (filled (v ∷ vs)) d d d (λ j p k. grind (arith, lift_lift (j + d) (length vs) 0 0 v, put_lift_more vs (j + d) 0 (j + d) v)) t

pub closed_put : ClosedPut
closed_put vs d t e = closed_walk _ (λ d p k h. grind arith) d t e

pick_bare : (vs : List Term) (p k : ℕ) → bare (pick vs p k) ≡ pick (map bare vs) 0 k
pick_bare [] p k = refl
pick_bare (v ∷ vs) p k = grind (arith, pick_bare vs p (k - 1))

pub bare_put : BarePut
bare_put vs d t =
    bare_walk _ _ (λ d p k. grind (arith, bare_lift d 0 (pick vs p (k - d)), pick_bare vs p (k - d))) d t

pick_closed : (vs : List Term) (c p k : ℕ) → all_closed c vs ≡ true → k < c + length vs → closed c (pick vs p k) ≡ true
pick_closed [] c p k e h = grind arith
pick_closed (v ∷ vs) c p k e h = grind (arith, pick_closed vs c p (k - 1))

pub put_closed : PutClosed
put_closed vs c d t e =
    walk_closed _ (c + d + length vs) d (c + d)
    (λ j p k h. grind (arith, pick_closed vs c p (k - (j + d)), lift_closed (j + d) c 0 (pick vs p (k - (j + d))))) t

-- lowering does what putting any closed terms would do
lower_closed_by : (vs : List Term) (c d : ℕ) (t u : Term) → all_closed c vs ≡ true → lower (length vs) d t ≡ Some u → closed (c + d + length vs) t ≡ true → closed (c + d) u ≡ true
lower_closed_by vs c d t u h e k = cc (put_lower vs d t u e, put_closed vs c d t h k)

sorts_closed : (n c : ℕ) → all_closed c (replicate n (sort 0 0)) ≡ true
sorts_closed zero c = refl
sorts_closed (suc n) c = sorts_closed n c

pub lower_closed : LowerClosed
lower_closed n c d t u = simp length-replicate at (lower_closed_by (replicate n (sort 0 0)) c d t u (sorts_closed n c))

pub lower_put : LowerPut
lower_put vs n d e t u k =
    cc (lift_lower n (e + d + length vs) t u k, lift_put vs n d e u, lower_lift n (e + d) (put vs d u))

pub ruleset putting = (put_lift, put_lower, put_lift_more, put_lifted, lift_put, lower_put, put_put, put_in_turn, lower_closed, put_closed, closed_put, bare_put)
