-- A name is found where it was bound or entered.
use Rattle.std.proofs.Common.{◌≡◌, ℕ, zero, suc, ◌+◌, ◌-◌, ◌^◌, ◌<◌, Bool, true, false, cond, List, [], ◌∷◌, ◌++◌, length, get_or, Some, None, Option, sym, refl, ap, ◌∙◌, subst₂, inl, inr, arith, length-append, rules}
use Rattle.std.specs.Char.{is_ascii_alphabetic}
use Rattle.std.specs.Str.{bytes_eq}
use Rattle.std.proofs.lemmas.Bool.{cases_eq, cond-true, cond-false}
use Rattle.std.proofs.lemmas.Fmt.{decimal_injective}
use Rattle.script.specs.Names.{last_from}
use Rattle.grammar.specs.Grammar.{Name, find, find_entry, later}
use Rattle.grammar.specs.Text.{binder_name, binder_names}

pub same_true : (x : Name) → bytes_eq x x ≡ true
same_true x = search rules

pub same_false : (x y : Name) → (x ≡ y → ⊥) → bytes_eq x y ≡ false
same_false x y h = search rules

binder_apart : (i j : ℕ) → i < 2 ^ 64 → j < 2 ^ 64 → (i ≡ j → ⊥) → binder_name i ≡ binder_name j → ⊥
binder_apart i j a b h e = h (decimal_injective i j a b (cc))

pub find_binder : (d j : ℕ) → j < d → d < 2 ^ 64 → find (binder_name j) (binder_names d) ≡ Some (d - suc j)
find_binder zero j h l = absurd (omega arith)
find_binder (suc d) j h l =
    elim (cases_eq d j) [
      | inl e ↦ cond-true (bytes_eq (binder_name d) (binder_name j)) _ _ (ap (λ n. bytes_eq (binder_name d) (binder_name n)) (sym e) ∙ same_true (binder_name d)) ∙ ap Some (omega arith)
      | inr n ↦ cond-false (bytes_eq (binder_name d) (binder_name j)) _ _ (same_false _ _ (binder_apart d j (omega arith) (omega arith) n)) ∙ ap later (find_binder d j (omega arith) (omega arith)) ∙ ap Some (omega arith)
    ]

pub find_none : (x : Name) (d : ℕ) → is_ascii_alphabetic (get_or x 0 0) ≡ true → find x (binder_names d) ≡ None
find_none x zero h = refl
find_none x (suc d) h = grind (arith, find_none x d h)

-- the last that passes
pub last_none : (p : Name → Bool) (i : ℕ) (o : Option ℕ) (xs : List Name) → ((k : ℕ) → k < length xs → p (get_or xs k []) ≡ false) → last_from p i o xs ≡ o
last_none p i o [] h = refl
last_none p i o (x ∷ xs) h = ap (λ q. last_from p (i + 1) q xs) (cond-false (p x) _ _ (h 0 (omega arith))) ∙ last_none p (i + 1) o xs (λ k l. h (suc k) (omega arith))

last_at : (p : Name → Bool) (i : ℕ) (o : Option ℕ) (xs : List Name) (j : ℕ) → j < length xs → p (get_or xs j []) ≡ true → ((k : ℕ) → j < k → k < length xs → p (get_or xs k []) ≡ false) → last_from p i o xs ≡ Some (i + j)
last_at p i o [] j l e h = absurd (omega arith)
last_at p i o (x ∷ xs) zero l e h =
    ap (λ q. last_from p (i + 1) q xs) (cond-true (p x) _ _ e) ∙ last_none p (i + 1) (Some i) xs (λ k l. h (suc k) (omega arith) (omega arith)) ∙ ap Some (omega arith)
last_at p i o (x ∷ xs) (suc j) l e h = last_at p (i + 1) _ xs j (omega arith) e (λ k a b. h (suc k) (omega arith) (omega arith)) ∙ ap Some (omega arith)

pub entry_found : (es : List Name) (j : ℕ) → ((i j : ℕ) → i < length es → j < length es → get_or es i [] ≡ get_or es j [] → i ≡ j) → j < length es → find_entry (get_or es j []) es ≡ Some j
entry_found es j h l = grind (arith, last_at, same_true, same_false)

-- one binder more, by an index from the first or by how many stand between
abbrev pub SameBinder : ℕ → Option ℕ → Option ℕ → Type 0
SameBinder n None r = r ≡ None
SameBinder n (Some i) r = (i < n) × (r ≡ Some (n - suc i))

-- binders in the order in which they were opened, and the nearest first
pub record Scope (names sc : List Name) : Type 0 where
  pub tells : (x : Name) → SameBinder (length names) (find_entry x names) (find x sc)

pub scope_none : Scope [] []
scope_none = record { tells = λ x. refl }

last_push : (p : Name → Bool) (i : ℕ) (o : Option ℕ) (xs : List Name) (x : Name) → last_from p i o (xs ++ x ∷ []) ≡ cond (p x) (Some (i + length xs)) (last_from p i o xs)
last_push p i o [] x = ap (λ k. cond (p x) (Some k) o) (omega arith)
last_push p i o (y ∷ xs) x =
    last_push p (i + 1) (cond (p y) (Some i) o) xs x
    ∙ ap (λ k. cond (p x) (Some k) (last_from p (i + 1) (cond (p y) (Some i) o) xs)) (omega arith)

later_same : (n : ℕ) (o r : Option ℕ) → SameBinder n o r → SameBinder (suc n) o (later r)
later_same n None r h = ap later h
later_same n (Some i) r h = (omega (arith, h.0), ap later h.1 ∙ ap Some (omega (arith, h.0)))

pushed_same : (b : Bool) (n : ℕ) (o r : Option ℕ) → SameBinder n o r → SameBinder (suc n) (cond b (Some (0 + n)) o) (cond b (Some 0) (later r))
pushed_same true n o r h = (omega arith, ap Some (omega arith))
pushed_same false n o r h = later_same n o r h

pub scope_push : (names sc : List Name) (y : Name) → Scope names sc → Scope (names ++ y ∷ []) (y ∷ sc)
scope_push names sc y h = record {
  tells = λ x.
      let e : suc (length names) ≡ length (names ++ y ∷ []) = omega (arith, length-append names (y ∷ [])) in
      subst₂ (λ n o. SameBinder n o (find x (y ∷ sc))) e (sym (last_push (λ z. bytes_eq z x) 0 None names y))
      (pushed_same (bytes_eq y x) (length names) (find_entry x names) (find x sc) (h.tells x));
}
