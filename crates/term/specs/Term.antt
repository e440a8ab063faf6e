-- Terms as trees of cells, and what lifting, lowering and putting in make of them.
-- Each cell has the place of its first byte in the script.
use Rattle.std.specs.Prelude.{ℕ, ◌+◌, ◌-◌, Bool, false, cond, not, ◌&&◌, ◌||◌, List, [], ◌∷◌, Some, None, Option, ◌==◌, nat_le, nat_lt}
use Rattle.std.specs.List.{list_all}
use Rattle.term.specs.declared.node.Unary.{Unary}
use Rattle.term.specs.declared.node.Binary.{Binary}
use Rattle.term.specs.Forms.{binds, binds_last}

-- a place first, then a sort's number, how many binders stand between a local and its own, an
-- entry's number, or a form with its parts; a choice is a match with its two arms
pub data Term : Type 0 where
  sort : ℕ → ℕ → Term
  local : ℕ → ℕ → Term
  entry : ℕ → ℕ → Term
  unary : ℕ → Unary → Term → Term
  binary : ℕ → Binary → Term → Term → Term
  choice : ℕ → Term → Term → Term → Term
  deriving Discrete as TermDiscrete

abbrev pub place : Term → ℕ
place (sort p s) = p
place (local p k) = p
place (entry p j) = p
place (unary p u E) = p
place (binary p b E F) = p
place (choice p E F G) = p

abbrev pub cells : Term → ℕ
cells (sort p s) = 1
cells (local p k) = 1
cells (entry p j) = 1
cells (unary p u E) = 1 + cells E
cells (binary p b E F) = 1 + (cells E + cells F)
cells (choice p E F G) = 1 + (cells E + (cells F + cells G))

-- puts f d p k for each local: d counts the binders over it, p is its place and k its number
abbrev pub walk : (ℕ → ℕ → ℕ → Term) → ℕ → Term → Term
walk f d (sort p s) = sort p s
walk f d (local p k) = f d p k
walk f d (entry p j) = entry p j
walk f d (unary p u E) = unary p u (walk f (binds u + d) E)
walk f d (binary p b E F) = binary p b (walk f d E) (walk f (binds_last b + d) F)
walk f d (choice p E F G) = choice p (walk f d E) (walk f (1 + d) F) (walk f (1 + d) G)

-- whether q d k is true of some local
abbrev pub any_local : (ℕ → ℕ → Bool) → ℕ → Term → Bool
any_local q d (sort p s) = false
any_local q d (local p k) = q d k
any_local q d (entry p j) = false
any_local q d (unary p u E) = any_local q (binds u + d) E
any_local q d (binary p b E F) = any_local q d E || any_local q (binds_last b + d) F
any_local q d (choice p E F G) = any_local q d E || (any_local q (1 + d) F || any_local q (1 + d) G)

-- adds n to every local that points out of d binders
abbrev pub raised : ℕ → ℕ → ℕ → ℕ → Term
raised n d p k = local p (cond (nat_lt k d) k (k + n))

abbrev pub lift : ℕ → ℕ → Term → Term
lift n = walk (raised n)

-- whether a local names one of the n binders outside of d
abbrev pub naming : ℕ → ℕ → ℕ → Bool
naming n d k = nat_le d k && nat_lt k (d + n)

abbrev pub names : ℕ → ℕ → Term → Bool
names n = any_local (naming n)

-- takes n away from every local that points out of d binders
abbrev pub lowered : ℕ → ℕ → ℕ → ℕ → Term
lowered n d p k = local p (cond (nat_lt k d) k (k - n))

abbrev pub unlift : ℕ → ℕ → Term → Term
unlift n = walk (lowered n)

-- the same, unless one of the n is named
abbrev pub lower : ℕ → ℕ → Term → Option Term
lower n d t = cond (names n d t) None (Some (unlift n d t))

-- the term that vs puts for local k; a local past vs is lowered
abbrev pub pick : List Term → ℕ → ℕ → Term
pick [] p k = local p k
pick (v ∷ vs) p k = cond (k == 0) v (pick vs p (k - 1))

-- puts vs, lifted as needed, for the locals 0, 1, .. and lowers the other outward locals
abbrev pub filled : List Term → ℕ → ℕ → ℕ → Term
filled vs d p k = cond (nat_lt k d) (local p k) (lift d 0 (pick vs p (k - d)))

abbrev pub put : List Term → ℕ → Term → Term
put vs = walk (filled vs)

-- whether every local points to one of the d binders or to a binder inside
abbrev pub leaving : ℕ → ℕ → Bool
leaving d k = nat_le d k

abbrev pub closed : ℕ → Term → Bool
closed d t = not (any_local leaving d t)

abbrev pub all_closed : ℕ → List Term → Bool
all_closed d vs = list_all (closed d) vs

-- the tree without its places: two terms are equal where these are
abbrev pub bare : Term → Term
bare (sort p s) = sort 0 s
bare (local p k) = local 0 k
bare (entry p j) = entry 0 j
bare (unary p u E) = unary 0 u (bare E)
bare (binary p b E F) = binary 0 b (bare E) (bare F)
bare (choice p E F G) = choice 0 (bare E) (bare F) (bare G)
