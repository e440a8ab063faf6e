-- What a cell of the arena stands for: a tree, or a context.
use Rattle.std.specs.Prelude.{ℕ, zero, suc, ◌+◌, ◌*◌, ◌^◌, ◌<◌, ◌≤◌, max, List, [], ◌∷◌, length, map, Some, None, Option, slice_index_or}
use Rattle.std.specs.Option.{option_map, option_map_or}
use Rattle.term.specs.declared.node.Node.{Node}
use Rattle.term.specs.declared.node.Node.TheVariants.{Sort, Local, Entry, One, Two, Match}
use Rattle.term.specs.declared.node.Binder.{Binder}
use Rattle.term.specs.declared.node.Cell.{Cell}
use Rattle.term.specs.declared.node.Cell.TheVariants.{Part, Under}
use Rattle.term.specs.Term.{Term, sort, local, entry, unary, binary, choice}

-- a node over the trees of its parts
abbrev pub form : Node → (ℕ → Term) → Term
form (Sort p s) f = sort p s
form (Local p k) f = local p k
form (Entry p j) f = entry p j
form (One p u a) f = unary p u (f a)
form (Two p b x y) f = binary p b (f x) (f y)
form (Match p e l r) f = choice p (f e) (f l) (f r)

-- what is no term stands for the blank tree
abbrev pub root : Cell → (ℕ → Term) → Term
root (Part c) f = form c f
root (Under b) f = sort 0 0

-- one past an index
abbrev pub over : Option ℕ → ℕ
over o = option_map_or suc o 0

-- one past the highest part
abbrev pub reach : Node → ℕ
reach (Sort p s) = 0
reach (Local p k) = 0
reach (Entry p j) = 0
reach (One p u a) = suc a
reach (Two p b x y) = max (suc x) (suc y)
reach (Match p e l r) = max (suc e) (max (suc l) (suc r))

abbrev pub span : Cell → ℕ
span (Part c) = reach c
span (Under b) = max (over b.kind) (max (over b.value) (over b.outer))

-- the number of a local
abbrev pub high : Node → ℕ
high (Sort p s) = 0
high (Local p k) = k
high (Entry p j) = 0
high (One p u a) = 0
high (Two p b x y) = 0
high (Match p e l r) = 0

abbrev pub peak : Cell → ℕ
peak (Part c) = high c
peak (Under b) = 0

-- what an index past the last cell stands for
abbrev pub blank : Cell
blank = Part (Sort 0 0)

unfoldable pub tree_to : ℕ → List Cell → ℕ → Term
tree_to zero xs i = sort 0 0
tree_to (suc n) xs i = root (slice_index_or xs i blank) (tree_to n xs)

-- the tree of cell i: its children lie below it, so i + 1 levels suffice
unfoldable pub tree : List Cell → ℕ → Term
tree xs i = tree_to (suc i) xs i

-- a binder of a context: its type, the blank tree where it has none, and its binding
pub record Bound : Type 0 where
  pub type : Term
  pub value : Option Term

-- the bindings of a context alone
abbrev pub bindings : List Bound → List (Option Term)
bindings bs = map (λ b. b.value) bs

abbrev pub typed : Option ℕ → (ℕ → Term) → Term
typed o f = option_map_or f o (sort 0 0)

abbrev pub bound : Option ℕ → (ℕ → Term) → Option Term
bound o f = option_map f o

-- a binder over the trees of its parts
abbrev pub opened : Binder → (ℕ → Term) → Bound
opened b f = record { type = typed b.kind f; value = bound b.value f }

-- the context of a cell, over the trees and contexts below it; what is no binder is an empty one
abbrev pub links : Cell → (ℕ → Term) → (Option ℕ → List Bound) → List Bound
links (Part c) f g = []
links (Under b) f g = opened b f ∷ g b.outer

unfoldable pub chain_to : ℕ → List Cell → Option ℕ → List Bound
chain_to zero xs o = []
chain_to (suc n) xs None = []
chain_to (suc n) xs (Some i) = links (slice_index_or xs i blank) (tree xs) (chain_to n xs)

-- the context at an index, nearest binder first
unfoldable pub chain : List Cell → Option ℕ → List Bound
chain xs o = chain_to (over o) xs o

-- a cell may stand at an index: its parts lie below it, and the number of a local is not too high
abbrev pub MayStandAt : ℕ → Cell → Type 0
MayStandAt i c = (span c ≤ i) × (peak c < (i + 1) * 2 ^ 32)

-- each cell may stand where it does
abbrev pub Sound : List Cell → Type 0
Sound xs = (i : ℕ) → i < length xs → MayStandAt i (slice_index_or xs i blank)
