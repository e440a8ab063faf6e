-- The search for a name among open binders and entries.
use Rattle.std.proofs.Common.{◌≡◌, ℕ, suc, ◌+◌, ◌-◌, ◌<◌, Bool, true, false, cond, List, [], ◌∷◌, ◌++◌, map, length, take, Some, None, Option, sym, refl, ap, ◌∙◌, subst, arith}
use Rattle.std.specs.Str.{bytes_eq}
use Rattle.std.proofs.lemmas.List.{take_at}
use Rattle.script.specs.declared.statement.Span.{Span}
use Rattle.script.specs.Names.{named, last_from, nearest}
use Rattle.grammar.specs.Grammar.{later, find, find_entry}
use Rattle.syntax.specs.Look.{span_bytes}
use Rattle.syntax.specs.Scopes.{opened_onto, opened, entry_names}

-- one binder more
onto_push : (s : List ℕ) (acc : List (List ℕ)) (xs : List Span) (x : Span) → opened_onto s acc (xs ++ x ∷ []) ≡ span_bytes s x ∷ opened_onto s acc xs
onto_push s acc [] x = refl
onto_push s acc (y ∷ xs) x = onto_push s (span_bytes s y ∷ acc) xs x

pub opened_push : (s : List ℕ) (xs : List Span) (x : Span) → opened s (xs ++ x ∷ []) ≡ span_bytes s x ∷ opened s xs
unfolding opened
opened_push s xs x = onto_push s [] xs x

-- counted from the nearest, where the binders have indices from the farthest
abbrev back : ℕ → Option ℕ → Option ℕ
back n None = None
back n (Some i) = Some (n - i - 1)

abbrev Below : Option ℕ → ℕ → Type 0
Below None n = Unit {0}
Below (Some i) n = i < n

later_back : (n : ℕ) (o : Option ℕ) → Below o n → later (back n o) ≡ back (n + 1) o
later_back n None h = refl
later_back n (Some i) h = ap Some (omega arith)

below_more : (n : ℕ) (o : Option ℕ) → Below o n → Below o (n + 1)
below_more n None h = tt
below_more n (Some i) h = omega arith

found_onto : (s x : List ℕ) (acc : List (List ℕ)) (i : ℕ) (best : Option ℕ) (xs : List Span) → Below best i → find x acc ≡ back i best → find x (opened_onto s acc xs) ≡ back (i + length xs) (last_from (λ y. named s x y.at y.len) i best xs)
found_onto s x acc i best [] b e = e ∙ ap (λ n. back n best) (omega arith)
found_onto s x acc i best (y ∷ xs) b e =
    let t = step (bytes_eq (span_bytes s y) x) in
    found_onto s x (span_bytes s y ∷ acc) (i + 1) (cond (bytes_eq (span_bytes s y) x) (Some i) best) xs t.0 t.1
    ∙ ap (λ n. back n (last_from (λ z. named s x z.at z.len) (i + 1) (cond (bytes_eq (span_bytes s y) x) (Some i) best) xs)) (omega arith)
  where
    step : (t : Bool) → Below (cond t (Some i) best) (i + 1) × (cond t (Some 0) (later (find x acc)) ≡ back (i + 1) (cond t (Some i) best))
    step true = (omega arith, ap Some (omega arith))
    step false = (below_more i best b, ap later e ∙ later_back i best b)

pub found_none : (s x : List ℕ) (xs : List Span) → None ≡ nearest (λ y. named s x y.at y.len) xs → None ≡ find x (opened s xs)
unfolding opened
found_none s x xs e = ap (back (0 + length xs)) e ∙ sym (found_onto s x [] 0 None xs tt refl)

pub found_some : (s x : List ℕ) (xs : List Span) (n i : ℕ) → n ≡ length xs → Some i ≡ nearest (λ y. named s x y.at y.len) xs → Some (n - i - 1) ≡ find x (opened s xs)
unfolding opened
found_some s x xs n i l e =
    ap (λ m. Some (m - i - 1)) (let k : n ≡ 0 + length xs = omega arith in k) ∙ ap (back (0 + length xs)) e ∙ sym (found_onto s x [] 0 None xs tt refl)

below_last : {X : Type 0} (p : X → Bool) (i : ℕ) (best : Option ℕ) (xs : List X) → Below best i → Below (last_from p i best xs) (i + length xs)
below_last p i best [] h = widen best h
  where
    widen : (o : Option ℕ) → Below o i → Below o (i + 0)
    widen None h = tt
    widen (Some j) h = omega arith
below_last p i best (x ∷ xs) h = widen (last_from p (i + 1) (cond (p x) (Some i) best) xs) (below_last p (i + 1) (cond (p x) (Some i) best) xs (next (p x)))
  where
    next : (t : Bool) → Below (cond t (Some i) best) (i + 1)
    next true = omega arith
    next false = below_more i best h

    widen : (o : Option ℕ) → Below o (i + 1 + length xs) → Below o (i + suc (length xs))
    widen None h = tt
    widen (Some j) h = omega arith

-- an index that is found is one of the list
pub found_below : {X : Type 0} (p : X → Bool) (xs : List X) (i : ℕ) → Some i ≡ nearest p xs → i < length xs
found_below p xs i e = let h : i < 0 + length xs = subst (λ o. Below o (0 + length xs)) (sym e) (below_last p 0 None xs tt) in omega arith

from_map : {X : Type 0} (f : X → List ℕ) (p : List ℕ → Bool) (i : ℕ) (best : Option ℕ) (xs : List X) → last_from (λ y. p (f y)) i best xs ≡ last_from p i best (map f xs)
from_map f p i best [] = refl
from_map f p i best (x ∷ xs) = from_map f p (i + 1) (cond (p (f x)) (Some i) best) xs

pub entry_found : (s x : List ℕ) (xs : List Span) (r : Option ℕ) → r ≡ nearest (λ y. named s x y.at y.len) xs → r ≡ find_entry x (entry_names s xs)
entry_found s x xs r e = e ∙ from_map (span_bytes s) (λ y. bytes_eq y x) 0 None xs

-- what was open before a binder is what is left when it is closed
pub closed_again : {X : Type 0} (was opened inside after : List X) (x : X) (n : ℕ) → opened ≡ was ++ x ∷ [] → inside ≡ opened → after ≡ take n inside → n ≡ length was → after ≡ was
closed_again was opened inside after x n e f g l = g ∙ ap (take n) (f ∙ e) ∙ take_at was (x ∷ []) n (sym l)
