-- What indices and sites stand for in the rules: entries, contexts, bindings, and the parts of a term.
use Rattle.std.specs.Prelude.{◌≡◌, ℕ, suc, ◌+◌, ◌<◌, ◌≤◌, max, List, [], ◌∷◌, Some, None, Option, Result, MatchResult}
use Rattle.std.specs.List.{slice_get}
use Rattle.term.specs.declared.arena.Arena.{Arena}
use Rattle.term.specs.declared.faults.Spent.{Spent}
use Rattle.term.specs.declared.node.Stored.{Stored}
use Rattle.term.specs.declared.node.Unary.{Unary}
use Rattle.term.specs.declared.node.Unary.TheVariants.{Fst, Snd}
use Rattle.term.specs.declared.node.Binary.{Binary}
use Rattle.term.specs.Term.{Term, sort}
use Rattle.term.specs.Cells.{Bound, bindings, bound, over}
use Rattle.term.specs.State.{cells_in, term, ctx, Kept}
use Rattle.rules.specs.Rules.{Entry, Premises, part, parts, gives_first, gives_second}
use Rattle.normal.specs.declared.look.Side.{Side}
use Rattle.normal.specs.declared.look.Side.TheVariants.{First, Second}
use Rattle.normal.specs.declared.site.Site.{Site}

-- a stored type and value as an entry
abbrev pub row : Arena → Stored → Entry
row a e = record { type = term a e.kind; value = bound e.value (term a) }

abbrev pub rows : Arena → List Stored → List Entry
rows a [] = []
rows a (e ∷ es) = row a e ∷ rows a es

-- one past the highest index in the entries
abbrev pub peak : Stored → ℕ
peak e = max (suc e.kind) (over e.value)

unfoldable pub top : List Stored → ℕ
top [] = 0
top (e ∷ es) = max (peak e) (top es)

abbrev pub row_of : Arena → Option Stored → Option Entry
row_of a None = None
row_of a (Some e) = Some (row a e)

abbrev pub peak_of : Option Stored → ℕ
peak_of None = 0
peak_of (Some e) = peak e

-- the entry j
pub record Listed (es : List Stored) (j : ℕ) (r : Option Stored) : Type 0 where
  pub is : (a : Arena) → slice_get (rows a es) j ≡ row_of a r
  pub low : peak_of r ≤ top es

-- the bindings of the context at o
abbrev pub binding : Arena → Option ℕ → List (Option Term)
binding a o = bindings (ctx a o)

-- a binder with neither type nor binding
abbrev pub free : Bound
free = record { type = sort 0 0; value = None }

-- the entries at a site, its context, and the bindings of its context
abbrev pub entries_at : Site → Arena → List Entry
entries_at s a = rows a s.entries.now

abbrev pub context_at : Site → Arena → List Bound
context_at s a = ctx a s.context

abbrev pub bindings_at : Site → Arena → List (Option Term)
bindings_at s a = binding a s.context

-- they stand in the arena
pub record Within (s : Site) (a : Arena) : Type 0 where
  pub rows : top s.entries.now ≤ cells_in a
  pub ctx : over s.context ≤ cells_in a

-- t is s under one more binder, B
pub record Inner (s : Site) (B : Bound) (a b : Arena) (t : Site) : Type 0 where
  pub entries : t.entries ≡ s.entries
  pub place : t.place ≡ s.place
  pub low : over t.context ≤ cells_in b
  pub context : context_at t b ≡ B ∷ context_at s a

-- a step under the binder B, at a cost of 1
pub record Enters (s : Site) (B : Bound) (a b : Arena) (r : Result Site Spent) : Type 0 where
  pub kept : Kept a b
  pub fair : cells_in b + b.left ≤ cells_in a + a.left
  pub made : MatchResult r (λ t. Inner s B a b t × (b.left + 1 ≡ a.left)) (λ _. a.left ≡ 0)

-- the part of a term of the form u, and the parts of one of the form b
pub record Part (a : Arena) (u : Unary) (i : ℕ) (r : Option ℕ) : Type 0 where
  pub is : part u (term a i) ≡ bound r (term a)
  pub low : over r ≤ i

abbrev pub both : Arena → Option (ℕ × ℕ) → Option (Term × Term)
both a None = None
both a (Some x) = Some (term a x.0, term a x.1)

abbrev pub over_both : Option (ℕ × ℕ) → ℕ
over_both None = 0
over_both (Some x) = max (suc x.0) (suc x.1)

pub record Parts (a : Arena) (b : Binary) (i : ℕ) (r : Option (ℕ × ℕ)) : Type 0 where
  pub is : parts b (term a i) ≡ both a r
  pub low : over_both r ≤ i

-- one of two, the form that takes it out of a pair, and the rule of that form
abbrev pub chosen : {A : Type 0} → Side → A × A → A
chosen First x = x.0
chosen Second x = x.1

abbrev pub projection : Side → Unary
projection First = Fst
projection Second = Snd

abbrev pub gives_side : Side → List Entry → ℕ → List (Option Term) → Term → Premises
gives_side First = gives_first
gives_side Second = gives_second
