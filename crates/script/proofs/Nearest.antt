-- The nearest record of a name, and the bytes of a name.
use Rattle.std.proofs.Common.{◌≡◌, ℕ, ◌+◌, ◌-◌, ◌^◌, ◌<◌, min, Bool, true, false, List, [], ◌∷◌, length, get_or, take, drop, Some, None, Option, MatchOption, zero, suc, sym, refl, ap, ◌∙◌, arith, rules}
use Rattle.std.proofs.lemmas.List.{places, same_lists}
use Rattle.std.proofs.lemmas.Bool.{cond-true, cond-false}
use Rattle.script.specs.Names.{nearest, last_from, bytes_at}

-- where none passes, the best so far stays
none_passes : {X : Type 0} (p : X → Bool) (n : ℕ) (best : Option ℕ) (xs : List X) → ((k : ℕ) (d : X) → k < length xs → p (get_or xs k d) ≡ false) → last_from p n best xs ≡ best
none_passes p n best [] fails = refl
none_passes p n best (x ∷ xs) fails =
    ap (λ b. last_from p (n + 1) b xs) (cond-false (p x) _ _ (fails 0 x (omega arith)))
    ∙ none_passes p (n + 1) best xs (λ k d h. fails (suc k) d (omega arith))

last_passes : {X : Type 0} (p : X → Bool) (n i : ℕ) (best : Option ℕ) (xs : List X) → i < length xs → ((d : X) → p (get_or xs i d) ≡ true) → ((k : ℕ) (d : X) → i < k → k < length xs → p (get_or xs k d) ≡ false) → last_from p n best xs ≡ Some (n + i)
last_passes p n i best [] h passes fails = absurd (omega arith)
last_passes p n zero best (x ∷ xs) h passes fails =
    ap (λ b. last_from p (n + 1) b xs) (cond-true (p x) _ _ (passes x))
    ∙ none_passes p (n + 1) (Some n) xs (λ k d l. fails (suc k) d (omega arith) (omega arith)) ∙ ap Some (omega arith)
last_passes p n (suc i) best (x ∷ xs) h passes fails =
    last_passes p (n + 1) i _ xs (omega arith) passes (λ k d l m. fails (suc k) d (omega arith) (omega arith)) ∙ ap Some (omega arith)

-- the last that passes is the nearest
pub last_is_nearest : {X : Type 0} (p : X → Bool) (xs : List X) (r : Option ℕ) → MatchOption r ((k : ℕ) (d : X) → k < length xs → p (get_or xs k d) ≡ false) (λ i. (i < length xs) × ((d : X) → p (get_or xs i d) ≡ true) × ((k : ℕ) (d : X) → i < k → k < length xs → p (get_or xs k d) ≡ false)) → r ≡ nearest p xs
last_is_nearest p xs None h = sym (none_passes p 0 None xs h)
last_is_nearest p xs (Some i) h = sym (last_passes p 0 i None xs h.0 h.1 h.2 ∙ ap Some (omega arith))

-- a part that is cut off at the end
pub clip : (s : List ℕ) (at n from to : ℕ) → from ≡ min at (length s) → to ≡ min (min (from + n) (2 ^ 64 - 1)) (length s) → length s < 2 ^ 64 → take (to - from) (drop from s) ≡ bytes_at s at n
clip s at n from to e h l = same_lists _ _ (search (rules, places)) (λ k d q. grind (arith, places))
