-- There is always a good name that is not yet entered.
use Rattle.std.proofs.Common.{◌≡◌, ℕ, zero, suc, ◌+◌, ◌^◌, ◌<◌, ◌≤◌, Bool, true, false, cond, ◌||◌, List, [], ◌∷◌, length, Some, None, decimal, Option, sym, refl, ap, ◌∙◌, ap₂, inl, inr, arith}
use Rattle.std.specs.Str.{bytes_eq}
use Rattle.std.proofs.lemmas.Bool.{cases_Bool, cond-true, cond-false, or_parts}
use Rattle.std.proofs.lemmas.Slice.Eq.{bytes_eq-Decides}
use Rattle.std.proofs.lemmas.Fmt.{decimal_injective, decimal_is_IsNumeral, length-decimal-le}
use Rattle.script.specs.Names.{last_from}
use Rattle.grammar.specs.Grammar.{Name, find_entry}
use Rattle.grammar.specs.Text.{GoodName}
use Rattle.grammar.proofs.Names.{same_false}
use Rattle.grammar.proofs.Tokens.{all_digits, all_words}

-- x0, x1, ..
abbrev pub candidate : ℕ → Name
candidate n = 120 ∷ decimal n

candidate_good : (n : ℕ) → n < 2 ^ 64 → GoodName (candidate n)
candidate_good n l =
    record {
      letter_first = refl;
      word_bytes = (refl, all_words (decimal n) (all_digits (decimal n) (decimal_is_IsNumeral n l).0.1));
      short = omega (arith, length-decimal-le 20 n (omega arith) (omega arith) l);
      free = refl;
    }

abbrev has : Name → List Name → Bool
has x [] = false
has x (y ∷ ys) = bytes_eq y x || has x ys

has_none : (x : Name) (i : ℕ) (o : Option ℕ) (es : List Name) → has x es ≡ false → last_from (λ y. bytes_eq y x) i o es ≡ o
has_none x i o [] e = refl
has_none x i o (y ∷ es) e =
    let h = or_parts (bytes_eq y x) (has x es) e in
    ap (λ q. last_from (λ y. bytes_eq y x) (i + 1) q es) (cond-false (bytes_eq y x) (Some i) o h.0) ∙ has_none x (i + 1) o es h.1

abbrev without : Name → List Name → List Name
without x [] = []
without x (y ∷ ys) = cond (bytes_eq y x) (without x ys) (y ∷ without x ys)

no_longer : (x : Name) (es : List Name) → length (without x es) ≤ length es
no_longer x [] = omega arith
no_longer x (y ∷ es) = by (bytes_eq y x) (no_longer x es)
  where
    by : (b : Bool) → length (without x es) ≤ length es → length (cond b (without x es) (y ∷ without x es)) ≤ suc (length es)
    by true h = omega arith
    by false h = omega arith

shorter : (x : Name) (es : List Name) → has x es ≡ true → length (without x es) < length es
shorter x [] e = cc
shorter x (y ∷ es) e = by (bytes_eq y x) e (shorter x es)
  where
    by : (b : Bool) → (b || has x es) ≡ true → (has x es ≡ true → length (without x es) < length es) → length (cond b (without x es) (y ∷ without x es)) < suc (length es)
    by true e h = omega (arith, no_longer x es)
    by false e h = omega (arith, h e)

kept : (x z : Name) (es : List Name) → (x ≡ z → ⊥) → has z (without x es) ≡ false → has z es ≡ false
kept x z [] n e = refl
kept x z (y ∷ es) n e =
    elim (cases_Bool (bytes_eq y x)) [
      | inl t ↦
          let a : y ≡ x = (bytes_eq-Decides y x).0 t in
          let k : has z (without x es) ≡ false = sym (ap (has z) (cond-true (bytes_eq y x) (without x es) (y ∷ without x es) t)) ∙ e in
          ap₂ ◌||◌ (same_false y z (λ b. n (sym a ∙ b))) (kept x z es n k)
      | inr t ↦
          let k = or_parts (bytes_eq y z) _ (sym (ap (has z) (cond-false (bytes_eq y x) (without x es) (y ∷ without x es) t)) ∙ e) in
          ap₂ ◌||◌ k.0 (kept x z es n k.1)
    ]

candidate_apart : (i j : ℕ) → i < 2 ^ 64 → j < 2 ^ 64 → (i ≡ j → ⊥) → candidate i ≡ candidate j → ⊥
candidate_apart i j a b h e = h (decimal_injective i j a b (cc))

-- one of the first n + 1 is not among n names
unused : (n : ℕ) (es : List Name) → n < 2 ^ 64 → length es ≤ n → (k : ℕ) × (k ≤ n) × (has (candidate k) es ≡ false)
unused zero [] l h = (0, omega arith, refl)
unused zero (e ∷ es) l h = absurd (omega arith)
unused (suc n) es l h =
    elim (cases_Bool (has (candidate (suc n)) es)) [
      | inl t ↦
          let r = unused n (without (candidate (suc n)) es) (omega arith) (omega (arith, shorter (candidate (suc n)) es t)) in
          let m : r.0 ≤ n = r.1 in
          (r.0, omega arith, kept (candidate (suc n)) (candidate r.0) es (candidate_apart (suc n) r.0 l (omega arith) (λ e. omega arith)) r.2)
      | inr t ↦ (suc n, omega arith, t)
    ]

pub record Fresh (entries : List Name) : Type 0 where
  pub new : Name
  pub good : GoodName new
  pub unknown : find_entry new entries ≡ None

pub fresh : (entries : List Name) → length entries < 2 ^ 64 → Fresh entries
fresh entries l =
    let r = unused (length entries) entries l (omega arith) in
    let m : r.0 ≤ length entries = r.1 in
    record { new = candidate r.0; good = candidate_good r.0 (omega arith); unknown = has_none (candidate r.0) 0 None entries r.2 }
