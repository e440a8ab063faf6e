-- What the functions of the arena do, in terms of trees and contexts.
use Rattle.std.specs.Prelude.{◌≡◌, ℕ, ◌+◌, ◌*◌, ◌^◌, ◌<◌, ◌≤◌, min, Bool, true, false, cond, ◌&&◌, List, [], ◌∷◌, ◌++◌, Some, None, vec_items, vec_len, Option, Result, MatchResult, nat_le}
use Rattle.std.specs.List.{slice_get}
use Rattle.std.specs.Option.{option_map, option_map_or}
use Rattle.term.specs.declared.node.Node.{Node}
use Rattle.term.specs.declared.node.Binder.{Binder}
use Rattle.term.specs.declared.node.Cell.{Cell}
use Rattle.term.specs.declared.node.Cell.TheVariants.{Part, Under}
use Rattle.term.specs.declared.faults.Spent.{Spent}
use Rattle.term.specs.declared.faults.Full.{Full}
use Rattle.term.specs.declared.faults.Unmade.{Unmade}
use Rattle.term.specs.declared.faults.Unmade.TheVariants.{Size, Memory}
use Rattle.term.specs.declared.arena.Arena.{Arena}
use Rattle.term.specs.Term.{Term, cells}
use Rattle.term.specs.Cells.{Bound, bindings, opened, tree, chain, root, form, links, span, peak, reach, high, over}

abbrev pub cells_in : Arena → ℕ
cells_in a = vec_len a.pool

abbrev pub term : Arena → ℕ → Term
term a i = tree (vec_items a.pool) i

abbrev pub ctx : Arena → Option ℕ → List Bound
ctx a o = chain (vec_items a.pool) o

-- the sizes that an arena may have
abbrev pub allowed : ℕ → Bool
allowed n = nat_le 1 n && nat_le n 1000000

-- why there is none
abbrev pub Refuses : ℕ → Unmade → Type 0
Refuses n Size = allowed n ≡ false
Refuses n Memory = allowed n ≡ true

-- an empty arena, with all its cells as the budget
pub record Empty (n : ℕ) (a : Arena) : Type 0 where
  pub size : allowed n ≡ true
  pub none : cells_in a ≡ 0
  pub limit : a.limit ≡ n
  pub left : a.left ≡ n

abbrev pub Opened : ℕ → Result Arena Unmade → Type 0
Opened n r = MatchResult r (Empty n) (Refuses n)

-- all cells of `a` have kept their trees and contexts
pub record Kept (a b : Arena) : Type 0 where
  pub long : cells_in a ≤ cells_in b
  pub limit : b.limit ≡ a.limit
  pub trees : (k : ℕ) → k < cells_in a → term b k ≡ term a k
  pub chains : (o : Option ℕ) → over o ≤ cells_in a → ctx b o ≡ ctx a o

-- the binders over a tree, and two for each cell of it, are counted in 32 bits
abbrev pub Shallow : ℕ → ℕ → Type 0
Shallow d i = d + 2 * min i 1000000 < 2 ^ 32

-- there is a free cell beyond those for what is left
abbrev pub HasSpare : Arena → Type 0
HasSpare a = cells_in a + a.left < a.limit

-- what is known of the cell at an index, a blank one where the index is past the last cell
pub record Holds (a : Arena) (i : ℕ) (c : Cell) : Type 0 where
  pub low : span c ≤ i
  pub held : span c ≤ cells_in a
  pub small : peak c ≤ cells_in a * 2 ^ 32
  pub is : term a i ≡ root c (term a)
  pub links : ctx a (Some i) ≡ links c (term a) (ctx a)

-- what is known of the tree at an index
pub record Read (a : Arena) (i : ℕ) (c : Node) : Type 0 where
  pub low : reach c ≤ i
  pub held : reach c ≤ cells_in a
  pub small : high c ≤ cells_in a * 2 ^ 32
  pub is : term a i ≡ form c (term a)
  pub cost : cells (term a i) ≡ cells (form c (term a))

-- a cost was taken from what is left, or it is too high
pub record Spends (a b : Arena) (cost : ℕ) (r : Result (Unit {0}) Spent) : Type 0 where
  pub kept : Kept a b
  pub pool : b.pool ≡ a.pool
  pub len : cells_in b ≡ cells_in a
  pub fair : b.left ≤ a.left
  pub made : MatchResult r (λ _. b.left + cost ≡ a.left) (λ _. (b.left ≡ a.left) × (a.left < cost))

-- one cell more, which was paid for before
pub record Pushes (a b : Arena) (c : Cell) (r : ℕ) : Type 0 where
  pub kept : Kept a b
  pub at : r ≡ cells_in a
  pub len : cells_in b ≡ cells_in a + 1
  pub left : b.left ≡ a.left
  pub items : vec_items b.pool ≡ vec_items a.pool ++ c ∷ []
  pub made : term b r ≡ root c (term a)
  pub linked : ctx b (Some r) ≡ links c (term a) (ctx a)

-- one cell of a term more, which was paid for before
pub record Added (a b : Arena) (c : Node) (r : ℕ) : Type 0 where
  pub kept : Kept a b
  pub at : r ≡ cells_in a
  pub len : cells_in b ≡ cells_in a + 1
  pub left : b.left ≡ a.left
  pub items : vec_items b.pool ≡ vec_items a.pool ++ Part c ∷ []
  pub made : term b r ≡ form c (term a)

-- the tree t was built, at a cost, or the cost is too high
pub record Built (a b : Arena) (cost : ℕ) (t : Term) (r : Result ℕ Spent) : Type 0 where
  pub kept : Kept a b
  pub fair : cells_in b + b.left ≤ cells_in a + a.left
  pub made : MatchResult r (λ i. (i < cells_in b) × (term b i ≡ t) × (b.left + cost ≡ a.left)) (λ _. a.left < cost)

-- a lowering: none, at no cost, where there is no lowered tree; else that tree, at the cost of its cells
abbrev pub Lowers : Arena → Arena → Option Term → Option ℕ → Type 0
Lowers a b u None = (u ≡ None) × (b.left ≡ a.left) × (cells_in b ≡ cells_in a)
Lowers a b u (Some i) = (i < cells_in b) × (u ≡ Some (term b i)) × (b.left + cells (term b i) ≡ a.left)

pub record Lowered (a b : Arena) (u : Option Term) (r : Result (Option ℕ) Spent) : Type 0 where
  pub kept : Kept a b
  pub fair : cells_in b + b.left ≤ cells_in a + a.left
  pub made : MatchResult r (Lowers a b u) (λ _. (t : Term) × (u ≡ Some t) × (a.left < cells t))

-- a count that gives up past a cap
abbrev pub capped : ℕ → ℕ → Option ℕ
capped cap n = cond (nat_le n cap) (Some n) None

-- one binder more, at a cost of 1: the context is then Γ
pub record Entered (a b : Arena) (Γ : List Bound) (r : Result ℕ Spent) : Type 0 where
  pub kept : Kept a b
  pub fair : cells_in b + b.left ≤ cells_in a + a.left
  pub made : MatchResult r (λ i. (i < cells_in b) × (ctx b (Some i) ≡ Γ) × (b.left + 1 ≡ a.left)) (λ _. a.left ≡ 0)

-- a binder that was looked up, as one of a context, and its binding alone
abbrev pub seen : Arena → Option Binder → Option Bound
seen a o = option_map (λ b. opened b (term a)) o

abbrev pub seen_value : Arena → Option Binder → Option (Option Term)
seen_value a o = option_map (λ b. (opened b (term a)).value) o

abbrev pub span_of : Option Binder → ℕ
span_of o = option_map_or (λ b. span (Under b)) o 0

-- one past the number of a binder that is there
abbrev pub depth_of : Option Binder → ℕ → ℕ
depth_of o k = option_map_or (λ _. k + 1) o 0

-- the k-th binder of a context, from the nearest
pub record Found (a : Arena) (o : Option ℕ) (k : ℕ) (r : Option Binder) : Type 0 where
  pub low : span_of r ≤ cells_in a
  pub deep : depth_of r k ≤ over o
  pub is : slice_get (ctx a o) k ≡ seen a r
  pub value : slice_get (bindings (ctx a o)) k ≡ seen_value a r

-- the cells up to a mark are left, with their trees and contexts
pub record Rewound (a b : Arena) (mark : ℕ) : Type 0 where
  pub kept : Kept b a
  pub len : cells_in b ≡ min mark (cells_in a)
  pub left : b.left ≡ a.left

-- a new budget, if there are as many free cells; else nothing is changed
pub record Allots (a b : Arena) (budget : ℕ) (r : Result (Unit {0}) Full) : Type 0 where
  pub kept : Kept a b
  pub len : cells_in b ≡ cells_in a
  pub made : MatchResult r (λ _. b.left ≡ budget) (λ _. (b.left ≡ a.left) × (a.limit < cells_in a + budget))
