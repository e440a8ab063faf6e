-- Lifting and lowering.
use Rattle.std.proofs.Common.{◌≡◌, ℕ, ◌+◌, ◌<◌, Bool, true, false, leb, sym, refl, ap, ◌∙◌, ap₂, add_assoc, zero-add, arith}
use Rattle.term.specs.Forms.{binds, binds_last}
use Rattle.term.specs.Term.{Term, sort, local, entry, unary, binary, choice, walk, any_local, lift, names, unlift, closed, cells, bare}
use Rattle.term.specs.Laws.{LiftZero, LiftLift, LiftSwap, LowerLift, LiftLower, LowerFails, LowerSwap, LiftClosed, ClosedLift, ClosedLower, CellsLift, CellsLower, BareNames, BareLift, BareLower}

-- two walks do what two others do, if they do so to each local
module _ (f g f' g' : ℕ → ℕ → ℕ → Term) (a b a' b' : ℕ)
    (same : (j p k : ℕ) → walk f (j + a) (g (j + b) p k) ≡ walk f' (j + a') (g' (j + b') p k)) where
  walks_below : (j : ℕ) (t : Term) → walk f (j + a) (walk g (j + b) t) ≡ walk f' (j + a') (walk g' (j + b') t)
  walks_below j (sort p s) = refl
  walks_below j (local p k) = same j p k
  walks_below j (entry p i) = refl
  walks_below j (unary p u E) = let e = simp add_assoc at (walks_below (binds u + j) E) in cc
  walks_below j (binary p h E F) =
      let e = walks_below j E in let e' = simp add_assoc at (walks_below (binds_last h + j) F) in cc
  walks_below j (choice p E F G) =
      let e = walks_below j E in
      let e' = simp add_assoc at (walks_below (1 + j) F) in
      let e'' = simp add_assoc at (walks_below (1 + j) G) in cc

  pub walks : (t : Term) → walk f a (walk g b t) ≡ walk f' a' (walk g' b' t)
  walks t = simp zero-add at (walks_below 0 t)

walk_id : (f : ℕ → ℕ → ℕ → Term) → ((d p k : ℕ) → f d p k ≡ local p k) → (d : ℕ) (t : Term) → walk f d t ≡ t
walk_id f h d (sort p s) = refl
walk_id f h d (local p k) = h d p k
walk_id f h d (entry p j) = refl
walk_id f h d (unary p u E) = ap (unary p u) (walk_id f h (binds u + d) E)
walk_id f h d (binary p b E F) = ap₂ (binary p b) (walk_id f h d E) (walk_id f h (binds_last b + d) F)
walk_id f h d (choice p E F G) = cc (walk_id f h d E, walk_id f h (1 + d) F, walk_id f h (1 + d) G)

pub walk_walk : (f g h : ℕ → ℕ → ℕ → Term) (a b c : ℕ) → ((j p k : ℕ) → walk f (j + a) (g (j + b) p k) ≡ h (j + c) p k) → (t : Term) → walk f a (walk g b t) ≡ walk h c t
walk_walk f g h a b c same t =
    walks f g h (λ d p k. local p k) a b c 0 same t ∙ ap (walk h c) (walk_id _ (λ d p k. refl) 0 t)

-- two walks from one depth are one walk
walk_twice : (f g : ℕ → ℕ → ℕ → Term) (d : ℕ) (t : Term) → walk f d (walk g d t) ≡ walk (λ e p k. walk f e (g e p k)) d t
walk_twice f g d t = walk_walk f g (λ e p k. walk f e (g e p k)) d d d (λ j p k. refl) t

pub lift_zero : LiftZero
lift_zero d t = walk_id _ (λ d p k. grind arith) d t

pub lift_lift : LiftLift
lift_lift n m d e t h h' = walk_walk _ _ _ e d d (λ j p k. grind arith) t

pub lift_swap : LiftSwap
lift_swap n m d e t h = walks _ _ _ _ (e + m) d d e (λ j p k. grind arith) t

module _ (q : ℕ → ℕ → Bool) where
  -- a walk that leaves alone each local where q is false
  walk_where : (f : ℕ → ℕ → ℕ → Term) → ((d p k : ℕ) → q d k ≡ false → f d p k ≡ local p k) → (d : ℕ) (t : Term) → any_local q d t ≡ false → walk f d t ≡ t
  walk_where f h d (sort p s) e = refl
  walk_where f h d (local p k) e = h d p k e
  walk_where f h d (entry p j) e = refl
  walk_where f h d (unary p u E) e = ap (unary p u) (walk_where f h (binds u + d) E e)
  walk_where f h d (binary p b E F) e = grind (arith, walk_where f h d E, walk_where f h (binds_last b + d) F)
  walk_where f h d (choice p E F G) e =
      grind (arith, walk_where f h d E, walk_where f h (1 + d) F, walk_where f h (1 + d) G)

  any_never : (f : ℕ → ℕ → ℕ → Term) → ((d p k : ℕ) → any_local q d (f d p k) ≡ false) → (d : ℕ) (t : Term) → any_local q d (walk f d t) ≡ false
  any_never f h d (sort p s) = refl
  any_never f h d (local p k) = h d p k
  any_never f h d (entry p j) = refl
  any_never f h d (unary p u E) = any_never f h (binds u + d) E
  any_never f h d (binary p b E F) = cc (any_never f h d E, any_never f h (binds_last b + d) F)
  any_never f h d (choice p E F G) = cc (any_never f h d E, any_never f h (1 + d) F, any_never f h (1 + d) G)

  any_less : (r : ℕ → ℕ → Bool) → ((d k : ℕ) → q d k ≡ false → r d k ≡ false) → (d : ℕ) (t : Term) → any_local q d t ≡ false → any_local r d t ≡ false
  any_less r h d (sort p s) e = refl
  any_less r h d (local p k) e = h d k e
  any_less r h d (entry p j) e = refl
  any_less r h d (unary p u E) e = any_less r h (binds u + d) E e
  any_less r h d (binary p b E F) e = grind (arith, any_less r h d E, any_less r h (binds_last b + d) F)
  any_less r h d (choice p E F G) e = grind (arith, any_less r h d E, any_less r h (1 + d) F, any_less r h (1 + d) G)

  any_bare : (d : ℕ) (t : Term) → any_local q d (bare t) ≡ any_local q d t
  any_bare d (sort p s) = refl
  any_bare d (local p k) = refl
  any_bare d (entry p j) = refl
  any_bare d (unary p u E) = any_bare (binds u + d) E
  any_bare d (binary p b E F) = cc (any_bare d E, any_bare (binds_last b + d) F)
  any_bare d (choice p E F G) = cc (any_bare d E, any_bare (1 + d) F, any_bare (1 + d) G)

-- what a walk gives is closed, if it gives something closed for each local
module _ (f : ℕ → ℕ → ℕ → Term) (a b c : ℕ)
    (kept : (j p k : ℕ) → k < j + a → closed (j + c) (f (j + b) p k) ≡ true) where
  closed_below : (j : ℕ) (t : Term) → closed (j + a) t ≡ true → closed (j + c) (walk f (j + b) t) ≡ true
  closed_below j (sort p s) e = refl
  closed_below j (local p k) e = kept j p k (grind arith)
  closed_below j (entry p i) e = refl
  closed_below j (unary p u E) e = simp add_assoc at (closed_below (binds u + j) E) e
  closed_below j (binary p h E F) e =
      grind (arith, closed_below j E, simp add_assoc at (closed_below (binds_last h + j) F))
  closed_below j (choice p E F G) e =
      grind (arith, closed_below j E, simp add_assoc at (closed_below (1 + j) F), simp add_assoc at (closed_below (1 + j) G))

  pub walk_closed : (t : Term) → closed a t ≡ true → closed c (walk f b t) ≡ true
  walk_closed t = simp zero-add at (closed_below 0 t)

cells_walk : (f : ℕ → ℕ → ℕ → Term) → ((d p k : ℕ) → cells (f d p k) ≡ 1) → (d : ℕ) (t : Term) → cells (walk f d t) ≡ cells t
cells_walk f h d (sort p s) = refl
cells_walk f h d (local p k) = h d p k
cells_walk f h d (entry p j) = refl
cells_walk f h d (unary p u E) = cc (cells_walk f h (binds u + d) E)
cells_walk f h d (binary p b E F) = cc (cells_walk f h d E, cells_walk f h (binds_last b + d) F)
cells_walk f h d (choice p E F G) = cc (cells_walk f h d E, cells_walk f h (1 + d) F, cells_walk f h (1 + d) G)

pub bare_walk : (f g : ℕ → ℕ → ℕ → Term) → ((d p k : ℕ) → bare (f d p k) ≡ g d 0 k) → (d : ℕ) (t : Term) → bare (walk f d t) ≡ walk g d (bare t)
bare_walk f g h d (sort p s) = refl
bare_walk f g h d (local p k) = h d p k
bare_walk f g h d (entry p j) = refl
bare_walk f g h d (unary p u E) = cc (bare_walk f g h (binds u + d) E)
bare_walk f g h d (binary p b E F) = cc (bare_walk f g h d E, bare_walk f g h (binds_last b + d) F)
bare_walk f g h d (choice p E F G) = cc (bare_walk f g h d E, bare_walk f g h (1 + d) F, bare_walk f g h (1 + d) G)

unlift_lift : (n d : ℕ) (t : Term) → unlift n d (lift n d t) ≡ t
unlift_lift n d t = walk_twice _ _ d t ∙ walk_id _ (λ d p k. grind arith) d t

names_lift : (n d : ℕ) (t : Term) → names n d (lift n d t) ≡ false
names_lift n d t = any_never _ _ (λ d p k. grind arith) d t

lift_unlift : (n d : ℕ) (t : Term) → names n d t ≡ false → lift n d (unlift n d t) ≡ t
lift_unlift n d t e = walk_twice _ _ d t ∙ walk_where _ _ (λ d p k h. grind arith) d t e

pub lower_lift : LowerLift
lower_lift n d t = cc (names_lift n d t, unlift_lift n d t)

pub lift_lower : LiftLower
lift_lower n d t u e = grind (arith, lift_unlift n d t)

pub lower_fails : LowerFails
lower_fails n d t = grind arith

pub closed_walk : (f : ℕ → ℕ → ℕ → Term) → ((d p k : ℕ) → k < d → f d p k ≡ local p k) → (d : ℕ) (t : Term) → closed d t ≡ true → walk f d t ≡ t
closed_walk f h d t e = walk_where (λ d k. leb d k) f (λ d p k x. h d p k (grind arith)) d t (grind arith)

pub closed_lift : ClosedLift
closed_lift n d t e = closed_walk _ (λ d p k h. grind arith) d t e

pub closed_lower : ClosedLower
closed_lower n d t e =
    let a : unlift n d t ≡ t = closed_walk _ (λ d p k h. grind arith) d t e in
    let b : names n d t ≡ false = any_less (λ d k. leb d k) _ (λ d k h. grind arith) d t (grind arith) in
    cc

pub cells_lift : CellsLift
cells_lift n d t = cells_walk _ (λ d p k. refl) d t

pub cells_lower : CellsLower
cells_lower n d t u e = sym (cells_lift n d u) ∙ ap cells (lift_lower n d t u e)

pub bare_lift : BareLift
bare_lift n d t = bare_walk _ _ (λ d p k. refl) d t

pub bare_names : BareNames
bare_names n d t = any_bare _ d t

pub bare_lower : BareLower
bare_lower n d t u e =
    let x : bare (unlift n d t) ≡ unlift n d (bare t) = bare_walk _ _ (λ d p k. refl) d t in
    grind (arith, bare_names n d t)

pub lift_closed : LiftClosed
lift_closed n d e t = walk_closed _ d e (d + n) (λ j p k h. grind arith) t

pub lower_swap : LowerSwap
lower_swap n m d e t u h k = cc (lift_lower n e t u k, lift_swap n m d e u h, lower_lift n (e + m) (lift m d u))

pub ruleset lifting = (lift_zero, lift_lift, lift_swap, lower_lift, lift_lower, lower_fails, lower_swap, lift_closed, closed_lift, closed_lower, cells_lift, cells_lower, bare_names, bare_lift, bare_lower)
