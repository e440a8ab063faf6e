-- How a tree is stored: compactly, with no sharing, each part before its whole.
use Rattle.std.specs.Prelude.{◌≡◌, ℕ, ◌+◌, ◌-◌, ◌<◌, ◌≤◌, Bool, true, List, [], ◌∷◌, ◌++◌, length, take, vec_items, Option, Result, MatchResult}
use Rattle.term.specs.declared.node.Cell.{Cell}
use Rattle.term.specs.declared.node.Cell.TheVariants.{Part}
use Rattle.term.specs.declared.node.Node.TheVariants.{Sort, Local, Entry, One, Two, Match}
use Rattle.term.specs.declared.faults.Spent.{Spent}
use Rattle.term.specs.declared.node.Stored.{Stored}
use Rattle.std.specs.List.{remove_range}
use Rattle.std.specs.Option.{option_map, option_map_or}
use Rattle.term.specs.declared.arena.Arena.{Arena}
use Rattle.term.specs.declared.arena.gap.Gap.{Gap}
use Rattle.term.specs.Term.{Term, sort, local, entry, unary, binary, choice, cells, closed}
use Rattle.term.specs.Cells.{over, bound}
use Rattle.term.specs.State.{cells_in, term, ctx, Kept}

-- the index of the last cell
abbrev pub last : List Cell → ℕ
last xs = length xs - 1

-- the cells of a tree after others: those of its parts, and then its root
abbrev pub lay : List Cell → Term → List Cell
lay xs (sort p s) = xs ++ Part (Sort p s) ∷ []
lay xs (local p k) = xs ++ Part (Local p k) ∷ []
lay xs (entry p j) = xs ++ Part (Entry p j) ∷ []
lay xs (unary p u E) = lay xs E ++ Part (One p u (last (lay xs E))) ∷ []
lay xs (binary p b E F) = lay (lay xs E) F ++ Part (Two p b (last (lay xs E)) (last (lay (lay xs E) F))) ∷ []
lay xs (choice p E F G) =
    lay (lay (lay xs E) F) G
    ++ Part (Match p (last (lay xs E)) (last (lay (lay xs E) F)) (last (lay (lay (lay xs E) F) G))) ∷ []

-- the gap lies in the arena
abbrev pub HasGap : Arena → Gap → Type 0
HasGap a g = g.top ≤ cells_in a

-- the cells of an arena once the gap is closed
abbrev pub close : Arena → Gap → List Cell
close a g = remove_range (vec_items a.pool) g.mark g.top

-- cells were laid on the top of the arena, each with its parts at the places that they have once
-- the gap is closed: then the list is ys, and its last cell the one named
pub record Lays (a b : Arena) (g : Gap) (ys : List Cell) (cost : ℕ) (r : Result ℕ Spent) : Type 0 where
  pub kept : Kept a b
  pub fair : cells_in b + b.left ≤ cells_in a + a.left
  pub made : MatchResult r (λ i. (close b g ≡ ys) × (i ≡ last ys) × (i < cells_in b) × (cells_in b ≡ cells_in a + cost) × (b.left + cost ≡ a.left)) (λ _. a.left < cost)

-- the same of a term that may be missing
abbrev pub lay_all : List Cell → Option Term → List Cell
lay_all xs o = option_map_or (lay xs) o xs

abbrev pub cells_of : Option Term → ℕ
cells_of o = option_map_or cells o 0

abbrev pub shut : Option Term → Bool
shut o = option_map_or (closed 0) o true

-- where its root comes to stand
abbrev pub root_of : List Cell → Option Term → Option ℕ
root_of ys o = option_map (λ _. last ys) o

pub record LaysAll (a b : Arena) (g : Gap) (v : Option Term) (r : Result (Option ℕ) Spent) : Type 0 where
  pub kept : Kept a b
  pub fair : cells_in b + b.left ≤ cells_in a + a.left
  pub made : MatchResult r (λ o. (close b g ≡ lay_all (close a g) v) × (o ≡ root_of (close b g) v) × (cells_in b ≡ cells_in a + cells_of v) × (b.left + cells_of v ≡ a.left)) (λ _. a.left < cells_of v)

-- a type t and perhaps a value v stand right above the mark, and nothing after them; what lies
-- below the mark is as it was
pub record Settled (a b : Arena) (mark : ℕ) (t : Term) (v : Option Term) (s : Stored) : Type 0 where
  pub limit : b.limit ≡ a.limit
  pub items : vec_items b.pool ≡ lay_all (lay (take mark (vec_items a.pool)) t) v
  pub len : cells_in b ≡ mark + (cells t + cells_of v)
  pub left : b.left + (cells t + cells_of v) ≡ a.left
  pub low : s.kind < cells_in b
  pub kind : term b s.kind ≡ t
  pub low_value : over s.value ≤ cells_in b
  pub value : bound s.value (term b) ≡ v
  pub trees : (k : ℕ) → k < mark → term b k ≡ term a k
  pub chains : (o : Option ℕ) → over o ≤ mark → ctx b o ≡ ctx a o

-- it costs the cells of both; where that is too high, all older cells are kept
abbrev pub Stores : Arena → Arena → ℕ → Term → Option Term → Result Stored Spent → Type 0
Stores a b mark t v r = MatchResult r (Settled a b mark t v) (λ _. Kept a b × (a.left < cells t + cells_of v))
