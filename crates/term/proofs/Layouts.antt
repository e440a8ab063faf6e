-- Cells laid on the top, and what their trees are.
use Rattle.std.proofs.Common.{◌≡◌, ℕ, ◌+◌, ◌*◌, ◌^◌, ◌<◌, ◌≤◌, Bool, true, false, not, ◌||◌, leb, List, [], ◌∷◌, ◌++◌, length, take, Some, None, Option, sym, refl, ap, ◌∙◌, arith, length-append}
use Rattle.std.specs.List.{remove_range}
use Rattle.std.proofs.lemmas.List.{length-take-le, drop_all, append-nil}
use Rattle.term.specs.declared.node.Unary.{Unary}
use Rattle.term.specs.declared.node.Unary.TheVariants.{Fun, Fst, Snd, Inl, Inr}
use Rattle.term.specs.declared.node.Binary.{Binary}
use Rattle.term.specs.declared.node.Binary.TheVariants.{Pi, Sigma, Exists, Typed, App, Pair, Pack, Unpack, Sum, Ascribe, Let}
use Rattle.term.specs.declared.node.Node.{Node}
use Rattle.term.specs.declared.node.Node.TheVariants.{Sort, Local, Entry, One, Two, Match}
use Rattle.term.specs.declared.node.Cell.{Cell}
use Rattle.term.specs.declared.node.Cell.TheVariants.{Part}
use Rattle.term.specs.Forms.{binds, binds_last}
use Rattle.term.specs.Term.{Term, sort, local, entry, unary, binary, choice, cells, closed, any_local}
use Rattle.term.specs.Cells.{form, over, bound, reach, high, tree, chain, Sound}
use Rattle.term.specs.Layout.{last, lay, lay_all, cells_of, shut, root_of}
use Rattle.term.proofs.Trees.{pushed, cells_pos, taken}

-- cells after others, which keep their trees and contexts
pub record Onto (xs ys : List Cell) : Type 0 where
  pub sound : Sound ys
  pub long : length xs ≤ length ys
  pub kept : (k : ℕ) → k < length xs → tree ys k ≡ tree xs k
  pub chains : (o : Option ℕ) → over o ≤ length xs → chain ys o ≡ chain xs o

-- a tree among them
pub record Laid (xs ys : List Cell) (t : Term) : Type 0 where
  pub onto : Onto xs ys
  pub len : length ys ≡ length xs + cells t
  pub made : tree ys (last ys) ≡ t

none : (xs : List Cell) → Sound xs → Onto xs xs
none xs s = record { sound = s; long = omega arith; kept = λ k h. refl; chains = λ o h. refl }

more : {xs ys zs : List Cell} → Onto xs ys → Onto ys zs → Onto xs zs
more p q =
    record {
      sound = q.sound;
      long = omega arith;
      kept = λ k h. q.kept k (omega arith) ∙ p.kept k h;
      chains = λ o h. q.chains o (omega arith) ∙ p.chains o h;
    }

-- a root after its parts
seal : {xs ys : List Cell} {t : Term} (c : Node) → Onto xs ys → reach c ≤ length ys → high c < (length ys + 1) * 2 ^ 32 → length ys + 1 ≡ length xs + cells t → form c (tree ys) ≡ t → Laid xs (ys ++ Part c ∷ []) t
seal {xs} {ys} {t} c o low small n e =
    let zs = ys ++ Part c ∷ [] in
    let p = pushed {xs = ys} {ys = zs} {c = Part c} refl refl o.sound (low, small) in
    let l = length-append ys (Part c ∷ []) in
    let i : last zs ≡ length ys = omega arith in
    record {
      onto = more o (record { sound = p.sound; long = omega arith; kept = p.kept; chains = p.chains });
      len = omega arith;
      made = rw i (p.made ∙ e);
    }

neither_left : (a b : Bool) → not (a || b) ≡ true → not a ≡ true
neither_left true b e = e
neither_left false b e = refl

neither_right : (a b : Bool) → not (a || b) ≡ true → not b ≡ true
neither_right true true e = e
neither_right true false e = refl
neither_right false b e = e

abbrev out : ℕ → Term → Bool
out = any_local leb

few : (u : Unary) → binds u ≤ 2
few Fun = omega arith
few Fst = omega arith
few Snd = omega arith
few Inl = omega arith
few Inr = omega arith

few_last : (b : Binary) → binds_last b ≤ 2
few_last Pi = omega arith
few_last Sigma = omega arith
few_last Exists = omega arith
few_last Typed = omega arith
few_last App = omega arith
few_last Pair = omega arith
few_last Pack = omega arith
few_last Unpack = omega arith
few_last Sum = omega arith
few_last Ascribe = omega arith
few_last Let = omega arith

-- a root's part, where more cells stand after it
part : {xs ys zs : List Cell} {t : Term} → Laid xs ys t → Onto ys zs → tree zs (last ys) ≡ t
part {xs} {ys} {zs} {t} p o = o.kept (last ys) (omega (arith, p.len, cells_pos t)) ∙ p.made

-- the tree stands there; the locals of a tree that d binders close are below d and its depth
pub laid : (xs : List Cell) (t : Term) (d : ℕ) → Sound xs → closed d t ≡ true → d + 2 * cells t ≤ 2 ^ 32 → Laid xs (lay xs t) t
laid xs (sort p s) d h e n = seal (Sort p s) (none xs h) (omega arith) (omega arith) refl refl
laid xs (local p k) d h e n = let q : k < d = grind arith in seal (Local p k) (none xs h) (omega arith) (omega arith) refl refl
laid xs (entry p j) d h e n = seal (Entry p j) (none xs h) (omega arith) (omega arith) refl refl
laid xs (unary p u E) d h e n =
    let x = laid xs E (binds u + d) h e (omega (arith, few u)) in
    let w = cells_pos E in
    seal (One p u (last (lay xs E))) x.onto (omega (arith, x.len)) (omega arith) (omega (arith, x.len)) (ap (unary p u) x.made)
laid xs (binary p b E F) d h e n =
    let x = laid xs E d h (neither_left (out d E) (out (binds_last b + d) F) e) (omega arith) in
    let y = laid (lay xs E) F (binds_last b + d) x.onto.sound (neither_right (out d E) (out (binds_last b + d) F) e) (omega (arith, few_last b)) in
    let w = cells_pos E in
    let v = cells_pos F in
    seal (Two p b (last (lay xs E)) (last (lay (lay xs E) F))) (more x.onto y.onto) (omega (arith, x.len, y.len)) (omega arith) (omega (arith, x.len, y.len)) (cc (part x y.onto, y.made))
laid xs (choice p E F G) d h e n =
    let f = neither_right (out d E) (out (1 + d) F || out (1 + d) G) e in
    let x = laid xs E d h (neither_left (out d E) (out (1 + d) F || out (1 + d) G) e) (omega arith) in
    let y = laid (lay xs E) F (1 + d) x.onto.sound (neither_left (out (1 + d) F) (out (1 + d) G) f) (omega arith) in
    let z = laid (lay (lay xs E) F) G (1 + d) y.onto.sound (neither_right (out (1 + d) F) (out (1 + d) G) f) (omega arith) in
    let w = cells_pos E in
    let v = cells_pos F in
    let u = cells_pos G in
    seal (Match p (last (lay xs E)) (last (lay (lay xs E) F)) (last (lay (lay (lay xs E) F) G)))
    (more x.onto (more y.onto z.onto)) (omega (arith, x.len, y.len, z.len)) (omega arith) (omega (arith, x.len, y.len, z.len))
    (cc (part x (more y.onto z.onto), part y z.onto, z.made))

-- a term that may be missing
pub record Placed (xs ys : List Cell) (v : Option Term) : Type 0 where
  pub onto : Onto xs ys
  pub len : length ys ≡ length xs + cells_of v
  pub low : over (root_of ys v) ≤ length ys
  pub made : bound (root_of ys v) (tree ys) ≡ v

placed : (xs : List Cell) (v : Option Term) → Sound xs → shut v ≡ true → 2 * cells_of v ≤ 2 ^ 32 → Placed xs (lay_all xs v) v
placed xs None s e n = record { onto = none xs s; len = omega arith; low = omega arith; made = refl }
placed xs (Some t) s e n =
    let x = laid xs t 0 s e (omega arith) in
    record { onto = x.onto; len = x.len; low = omega (arith, x.len, cells_pos t); made = ap Some x.made }

-- a tree and perhaps another, right above the mark
pub record PlacedBoth (xs zs : List Cell) (mark i : ℕ) (o : Option ℕ) (t : Term) (v : Option Term) : Type 0 where
  pub sound : Sound zs
  pub len : length zs ≡ mark + (cells t + cells_of v)
  pub low : i < length zs
  pub kind : tree zs i ≡ t
  pub low_value : over o ≤ length zs
  pub value : bound o (tree zs) ≡ v
  pub trees : (k : ℕ) → k < mark → tree zs k ≡ tree xs k
  pub chains : (o : Option ℕ) → over o ≤ mark → chain zs o ≡ chain xs o

pub placed_both : (xs zs : List Cell) (mark i : ℕ) (o : Option ℕ) (t : Term) (v : Option Term) → Sound xs → mark ≤ length xs → closed 0 t ≡ true → shut v ≡ true → cells t + cells_of v ≤ 1000000 → zs ≡ lay_all (lay (take mark xs) t) v → i ≡ last (lay (take mark xs) t) → o ≡ root_of zs v → PlacedBoth xs zs mark i o t v
placed_both xs zs mark i o t v s l e e' n q qi qo =
    let ms = take mark xs in
    let m = length-take-le mark xs l in
    let b = taken {xs = xs} {ys = ms} mark refl s in
    let x = laid ms t 0 b.sound e (omega arith) in
    let y = placed (lay ms t) v x.onto.sound e' (omega arith) in
    let w = cells_pos t in
    rw (qo, qi, q) (record {
      sound = y.onto.sound;
      len = omega (arith, x.len, y.len);
      low = omega (arith, x.len, y.len);
      kind = part x y.onto;
      low_value = y.low;
      value = y.made;
      trees = λ k h. y.onto.kept k (omega (arith, x.len)) ∙ x.onto.kept k (omega arith) ∙ sym (b.kept k (omega arith));
      chains = λ o h. y.onto.chains o (omega (arith, x.len)) ∙ x.onto.chains o (omega arith) ∙ sym (b.chains o (omega arith));
    })

-- nothing is taken out of what stands below the top
pub remove_range_top : (xs : List Cell) (mark top : ℕ) → top ≡ length xs → remove_range xs mark top ≡ take mark xs
remove_range_top xs mark top e = rw (drop_all top xs (omega arith)) (append-nil (take mark xs))
