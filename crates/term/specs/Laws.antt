-- What lifting, lowering and putting come to: no local is captured and none is lost.
use Rattle.std.specs.Prelude.{◌≡◌, ℕ, ◌+◌, ◌≤◌, true, List, [], ◌∷◌, map, length, Some, None}
use Rattle.term.specs.Term.{Term, cells, lift, names, lower, put, closed, all_closed, bare}

abbrev pub LiftZero : Type 0
LiftZero = (d : ℕ) (t : Term) → lift 0 d t ≡ t

-- the second lift may start at any of the binders that the first has made
abbrev pub LiftLift : Type 0
LiftLift = (n m d e : ℕ) (t : Term) → d ≤ e → e ≤ d + m → lift n e (lift m d t) ≡ lift (m + n) d t

-- lifts at two depths, in either order
abbrev pub LiftSwap : Type 0
LiftSwap = (n m d e : ℕ) (t : Term) → d ≤ e → lift n (e + m) (lift m d t) ≡ lift m d (lift n e t)

abbrev pub LowerLift : Type 0
LowerLift = (n d : ℕ) (t : Term) → lower n d (lift n d t) ≡ Some t

abbrev pub LiftLower : Type 0
LiftLower = (n d : ℕ) (t u : Term) → lower n d t ≡ Some u → lift n d u ≡ t

abbrev pub LowerFails : Type 0
LowerFails = (n d : ℕ) (t : Term) → (lower n d t ≡ None → names n d t ≡ true) × (names n d t ≡ true → lower n d t ≡ None)

-- lowering after a lift, or the lift after lowering
abbrev pub LowerSwap : Type 0
LowerSwap = (n m d e : ℕ) (t u : Term) → d ≤ e → lower n e t ≡ Some u → lower n (e + m) (lift m d t) ≡ Some (lift m d u)

-- no local names what lifting has passed over, so any terms put there are lost
abbrev pub PutLift : Type 0
PutLift = (vs : List Term) (d : ℕ) (t : Term) → put vs d (lift (length vs) d t) ≡ t

abbrev pub PutLower : Type 0
PutLower = (vs : List Term) (d : ℕ) (t u : Term) → lower (length vs) d t ≡ Some u → put vs d t ≡ u

-- where lifting has passed over n binders more
abbrev pub PutLiftMore : Type 0
PutLiftMore = (vs : List Term) (n d e : ℕ) (t : Term) → d ≤ e → e ≤ d + n → put vs e (lift (n + length vs) d t) ≡ lift n d t

-- putting outside of d lifted binders
abbrev pub PutLifted : Type 0
PutLifted = (vs : List Term) (c d e : ℕ) (t : Term) → c ≤ e → put vs (e + d) (lift d c t) ≡ lift d c (put vs e t)

abbrev pub LiftPut : Type 0
LiftPut = (vs : List Term) (n d e : ℕ) (t : Term) → lift n (e + d) (put vs d t) ≡ put (map (lift n e) vs) d (lift n (e + d + length vs) t)

abbrev pub LowerPut : Type 0
LowerPut = (vs : List Term) (n d e : ℕ) (t u : Term) → lower n (e + d + length vs) t ≡ Some u → lower n (e + d) (put (map (lift n e) vs) d t) ≡ Some (put vs d u)

-- the substitution lemma
abbrev pub PutPut : Type 0
PutPut = (vs ws : List Term) (d e : ℕ) (t : Term) → put ws (e + d) (put vs d t) ≡ put (map (put ws e) vs) d (put ws (e + d + length vs) t)

-- terms put at once, or the first of them before the others
abbrev pub PutInTurn : Type 0
PutInTurn = (v : Term) (vs : List Term) (d : ℕ) (t : Term) → put vs d (put (lift (length vs) 0 v ∷ []) d t) ≡ put (v ∷ vs) d t

-- no local comes to point further out
abbrev pub LiftClosed : Type 0
LiftClosed = (n d e : ℕ) (t : Term) → closed d t ≡ true → closed (d + n) (lift n e t) ≡ true

abbrev pub LowerClosed : Type 0
LowerClosed = (n c d : ℕ) (t u : Term) → lower n d t ≡ Some u → closed (c + d + n) t ≡ true → closed (c + d) u ≡ true

abbrev pub PutClosed : Type 0
PutClosed = (vs : List Term) (c d : ℕ) (t : Term) → all_closed c vs ≡ true → closed (c + d + length vs) t ≡ true → closed (c + d) (put vs d t) ≡ true

-- what has no local that points out is left alone
abbrev pub ClosedLift : Type 0
ClosedLift = (n d : ℕ) (t : Term) → closed d t ≡ true → lift n d t ≡ t

abbrev pub ClosedLower : Type 0
ClosedLower = (n d : ℕ) (t : Term) → closed d t ≡ true → lower n d t ≡ Some t

abbrev pub ClosedPut : Type 0
ClosedPut = (vs : List Term) (d : ℕ) (t : Term) → closed d t ≡ true → put vs d t ≡ t

abbrev pub CellsLift : Type 0
CellsLift = (n d : ℕ) (t : Term) → cells (lift n d t) ≡ cells t

abbrev pub CellsLower : Type 0
CellsLower = (n d : ℕ) (t u : Term) → lower n d t ≡ Some u → cells u ≡ cells t

abbrev pub BareNames : Type 0
BareNames = (n d : ℕ) (t : Term) → names n d (bare t) ≡ names n d t

abbrev pub BareLift : Type 0
BareLift = (n d : ℕ) (t : Term) → bare (lift n d t) ≡ lift n d (bare t)

abbrev pub BareLower : Type 0
BareLower = (n d : ℕ) (t u : Term) → lower n d t ≡ Some u → lower n d (bare t) ≡ Some (bare u)

abbrev pub BarePut : Type 0
BarePut = (vs : List Term) (d : ℕ) (t : Term) → bare (put vs d t) ≡ put (map bare vs) d (bare t)

pub record SubstitutionLaws : Type 0 where
  pub lift_zero : LiftZero
  pub lift_lift : LiftLift
  pub lift_swap : LiftSwap
  pub lower_lift : LowerLift
  pub lift_lower : LiftLower
  pub lower_fails : LowerFails
  pub lower_swap : LowerSwap
  pub put_lift : PutLift
  pub put_lower : PutLower
  pub put_lift_more : PutLiftMore
  pub put_lifted : PutLifted
  pub lift_put : LiftPut
  pub lower_put : LowerPut
  pub put_put : PutPut
  pub put_in_turn : PutInTurn
  pub lift_closed : LiftClosed
  pub lower_closed : LowerClosed
  pub put_closed : PutClosed
  pub closed_lift : ClosedLift
  pub closed_lower : ClosedLower
  pub closed_put : ClosedPut
  pub cells_lift : CellsLift
  pub cells_lower : CellsLower
  pub bare_names : BareNames
  pub bare_lift : BareLift
  pub bare_lower : BareLower
  pub bare_put : BarePut
