-- What a read of a cell shows.
use Rattle.std.proofs.Common.{Bor, List, unwrap_or, ◌≡◌, ℕ, ◌<◌, ◌≤◌, length, get_or, Some, None, inl, inr, vec_items, Option, sym, refl, ap, ◌∙◌, arith}
use Rattle.std.specs.Option.{option_copied}
use Rattle.std.specs.Slice.{IsItemAt}
use Rattle.std.proofs.lemmas.Bool.{cases_lt}
use Rattle.std.proofs.lemmas.List.{get_or_default, get_or_past}
use Rattle.term.specs.declared.node.Cell.{Cell}
use Rattle.term.specs.declared.arena.Arena.{Arena}
use Rattle.term.specs.Cells.{root, over, bound, links, blank, tree, chain, tree_to, chain_to}
use Rattle.term.specs.State.{cells_in, term, Kept, Holds, Found}
use Rattle.term.proofs.Trees.{tree_at, chain_at}

held : (a : Arena) (i : ℕ) → i < cells_in a → Holds a i (get_or (vec_items a.pool) i blank)
held a i h =
    let xs = vec_items a.pool in
    let l : i < length xs = omega (arith, a.pool.ok.0) in
    let f = a.sound i l in
    record {
      low = f.0;
      held = omega (arith, f.0);
      small = omega (arith, f.1);
      is = tree_at xs i a.sound l;
      links = chain_at xs i a.sound l;
    }

-- past the last cell
pub past : (a : Arena) (i : ℕ) → cells_in a ≤ i → Holds a i blank
unfolding tree tree_to chain chain_to
past a i h =
    let xs = vec_items a.pool in
    let l : length xs ≤ i = omega (arith, a.pool.ok.0) in
    let b : get_or xs i blank ≡ blank = get_or_past xs i blank l in
    let t : tree xs i ≡ root blank (tree xs) = ap (λ x. root x (tree_to i xs)) b in
    record {
      low = omega arith;
      held = omega arith;
      small = omega arith;
      is = t;
      links = ap (λ x. links x (tree xs) (chain_to i xs)) b;
    }

read : (a : Arena) (i : ℕ) → Holds a i (get_or (vec_items a.pool) i blank)
read a i =
    let xs = vec_items a.pool in
    elim (cases_lt i (cells_in a)) [
      | inl h ↦ held a i h
      | inr h ↦ let l : length xs ≤ i = omega (arith, a.pool.ok.0) in rw (get_or_past xs i blank l) (past a i h)
    ]

-- what a look-up copies, or the blank cell
copied_or : (xs : List Cell) (i : ℕ) (r : Option (Bor Cell)) → IsItemAt xs i r → unwrap_or (option_copied r) blank ≡ get_or xs i blank
copied_or xs i None h = sym (get_or_past xs i blank (grind arith))
copied_or xs i (Some x) h = h.1 ∙ get_or_default xs i x.now blank (grind arith)

pub read_or : (a : Arena) (i : ℕ) (xs : List Cell) (r : Option (Bor Cell)) (c : Cell) → xs ≡ vec_items a.pool → IsItemAt xs i r → c ≡ unwrap_or (option_copied r) blank → Holds a i c
read_or a i xs r c e l q = rw (q, copied_or xs i r l, e) (read a i)

-- an empty context has no binder
pub no_binder : (a : Arena) (k : ℕ) → Found a None k None
unfolding chain chain_to
no_binder a k = record { low = omega arith; deep = omega arith; is = refl; value = refl }

pub still : (a : Arena) → Kept a a
still a = record { long = omega arith; limit = refl; trees = λ k h. refl; chains = λ o h. refl }

pub on_to : {a b c : Arena} → Kept a b → Kept b c → Kept a c
on_to k l =
    record {
      long = omega arith;
      limit = l.limit ∙ k.limit;
      trees = λ i h. l.trees i (omega arith) ∙ k.trees i h;
      chains = λ o h. l.chains o (omega arith) ∙ k.chains o h;
    }

pub bound_kept : {a b : Arena} (o : Option ℕ) → Kept a b → over o ≤ cells_in a → bound o (term b) ≡ bound o (term a)
bound_kept None k h = refl
bound_kept (Some i) k h = ap Some (k.trees i (omega arith))
