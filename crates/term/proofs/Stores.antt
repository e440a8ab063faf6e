-- What storing leaves: the two copies, once the cells before them are taken out.
use Rattle.std.proofs.Common.{◌≡◌, ℕ, ◌+◌, ◌≤◌, true, List, take, Ok, vec_items, Option, ap, arith}
use Rattle.term.specs.declared.arena.Arena.{Arena}
use Rattle.term.specs.declared.arena.gap.Gap.{Gap}
use Rattle.term.specs.declared.node.Cell.{Cell}
use Rattle.term.specs.Term.{Term, cells, closed}
use Rattle.term.specs.Cells.{over, bound}
use Rattle.term.specs.Layout.{close, lay, lay_all, cells_of, shut, Lays, LaysAll}
use Rattle.term.specs.State.{cells_in, term}
use Rattle.term.proofs.Layouts.{PlacedBoth, placed_both, remove_range_top}
use Rattle.term.proofs.States.{bound_kept}

-- where the two stand, as lists of cells, and what they cost
pub record Settles (a d : Arena) (zs : List Cell) (mark i : ℕ) (o : Option ℕ) (t : Term) (v : Option Term) : Type 0 where
  pub items : zs ≡ lay_all (lay (take mark (vec_items a.pool)) t) v
  pub cost : d.left + (cells t + cells_of v) ≡ a.left
  pub placed : PlacedBoth (vec_items a.pool) zs mark i o t v

module _ {a b d : Arena} {zs : List Cell} {g : Gap} (kind : ℕ) {i : ℕ} (value : Option ℕ) {o : Option ℕ}
    (is_top : g.top ≡ cells_in a) (below : g.mark ≤ cells_in a) (known : over value ≤ cells_in a)
    (shut_kind : closed 0 (term a kind) ≡ true) (shut_value : shut (bound value (term a)) ≡ true)
    (x : Lays a b g (lay (close a g) (term a kind)) (cells (term a kind)) (Ok i))
    (y : LaysAll b d g (bound value (term b)) (Ok o))
    (z : zs ≡ close d g) where
  laid_both : zs ≡ lay_all (lay (take g.mark (vec_items a.pool)) (term a kind)) (bound value (term a))
  laid_both =
      let w : close a g ≡ take g.mark (vec_items a.pool) = remove_range_top (vec_items a.pool) g.mark g.top (omega (arith, a.pool.ok.0)) in
      let v : bound value (term b) ≡ bound value (term a) = bound_kept value x.kept known in
      cc (x.made.0, y.made.0)

  paid : d.left + (cells (term a kind) + cells_of (bound value (term a))) ≡ a.left
  paid =
      let v : cells_of (bound value (term b)) ≡ cells_of (bound value (term a)) = ap cells_of (bound_kept value x.kept known) in
      omega (arith, x.made.4, y.made.3)

  pub settles : Settles a d zs g.mark i o (term a kind) (bound value (term a))
  settles =
      let w : close a g ≡ take g.mark (vec_items a.pool) = remove_range_top (vec_items a.pool) g.mark g.top (omega (arith, a.pool.ok.0)) in
      let v : bound value (term b) ≡ bound value (term a) = bound_kept value x.kept known in
      record {
        items = laid_both;
        cost = paid;
        placed =
            placed_both (vec_items a.pool) zs g.mark i o (term a kind) (bound value (term a)) a.sound (omega (arith, a.pool.ok.0)) shut_kind shut_value
            (omega (arith, paid, a.room, a.few)) laid_both (cc x.made.1) (cc y.made.1);
      }
