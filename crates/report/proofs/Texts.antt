-- One text written after another, and a text that is read.
use Rattle.std.proofs.Common.{◌≡◌, ℕ, ◌+◌, ◌/◌, ◌%◌, ◌^◌, ◌<◌, ◌≤◌, List, [], ◌∷◌, ◌++◌, take, Some, None, IfSome, Option, Result, Ok, Err, OnOk, decimal, ◌⊎◌, inl, inr, length, sym, subst, ap, ◌∙◌, append_assoc, append-nil, length-append, length-take-le, arith}
use Rattle.std.proofs.lemmas.Fmt.{decimal_digit, decimal_step}
use Rattle.std.specs.Io.KnownBytes.{Consumes, IsAtEnd}
use Rattle.std.proofs.KnownBytes.{Consumes-trans}
use Rattle.std.proofs.lemmas.List.{take-append-le}
use Rattle.report.specs.Lines.{Appended, line}

pub then_more : {i a j b k : List ℕ} → Appended i a j → Appended j b k → Appended i (a ++ b) k
then_more {i} {a} {j} {b} {k} e f = record { whole = f.whole ∙ ap (λ l. l ++ b) e.whole ∙ append_assoc i a b }

pub as_line : (key value : List ℕ) {i j : List ℕ} → Appended i (key ++ (value ++ 10 ∷ [])) j → Appended i (line key value) j
unfolding line
as_line key value e = e

-- the one digit of a number
pub one_digit : (n : ℕ) {i j k : List ℕ} → n < 10 → j ≡ i → k ≡ j ++ (48 + n % 10) ∷ [] → Appended i (decimal n) k
one_digit n {i} h f e =
    let m : n % 10 ≡ n = omega arith in
    record { whole = e ∙ ap (λ l. l ++ (48 + n % 10) ∷ []) f ∙ ap (λ d. i ++ (48 + d) ∷ []) m ∙ ap (λ l. i ++ l) (sym (decimal_digit n h)) }

-- the last digit of a number, after the others
pub last_digit : (n : ℕ) {i j k l : List ℕ} → 10 ≤ n → n < 2 ^ 64 → Appended i (decimal (n / 10)) j → l ≡ j → k ≡ l ++ (48 + n % 10) ∷ [] → Appended i (decimal n) k
last_digit n {i} {j} {k} h b others f e =
    subst (λ a. Appended i a k) (sym (decimal_step n h b))
    (then_more others (record { whole = e ∙ ap (λ l. l ++ (48 + n % 10) ∷ []) f }))

-- one read more, which gave bytes
pub read_on : (known left rest : Option (List ℕ)) (i n : ℕ) (was part is : List ℕ) → n ≤ length part → 0 < n → is ≡ was ++ take n part → (i ≤ length was) × Consumes known left was → Consumes left rest (take n part) → (i + 1 ≤ length is) × Consumes known rest is
read_on known left rest i n was part is fits some e before more =
    let count = length-append was (take n part) in
    let size : i + 1 ≤ length (was ++ take n part) = omega (arith, length-take-le n part fits) in
    subst (λ l. (i + 1 ≤ length l) × Consumes known rest l) (sym e) (size, Consumes-trans _ _ _ _ _ before.1 more)

-- a reader that is at its end after it gave nothing was there before
pub at_end : (left rest : Option (List ℕ)) (n : ℕ) (part : List ℕ) → n ≡ 0 → Consumes left rest (take n part) → IsAtEnd rest → IsAtEnd left
at_end None rest n part none read end = tt
at_end (Some xs) None n part none read end = absurd read
at_end (Some xs) (Some ys) n part none read end = read ∙ ap (λ m. take m part ++ ys) none ∙ end

-- all of the known bytes that count, cut to a limit
pub cut_at : (known left : Option (List ℕ)) (k : ℕ) (was is : List ℕ) → Consumes known left was → k ≤ length was ⊎ IsAtEnd left → is ≡ take k was → IfSome known (λ bytes. is ≡ take k bytes)
cut_at None left k was is read enough e = tt
cut_at (Some xs) None k was is read enough e = absurd read
cut_at (Some xs) (Some ys) k was is read (inl long) e = e ∙ sym (take-append-le k was ys long) ∙ ap (take k) (sym read)
cut_at (Some xs) (Some ys) k was is read (inr end) e = e ∙ ap (take k) (sym (read ∙ ap (λ l. was ++ l) end ∙ append-nil was))

-- what is told of the bytes that were read was written
pub ran : {V E : Type 0} (r : Result (Unit {0}) E) (known : Option (List ℕ)) (n : ℕ) (script : List ℕ) (text : V) (Told : List ℕ → V → Type 0) (Puts : V → Type 0) → IfSome known (λ bytes. script ≡ take n bytes) → Told script text → OnOk r (Puts text) → OnOk r (IfSome known (λ bytes. (x : V) × Told (take n bytes) x × Puts x))
ran (Ok u) (Some bytes) n script text Told Puts e t p = (text, subst (λ s. Told s text) e t, p)
ran (Ok u) None n script text Told Puts e t p = tt
ran (Err x) known n script text Told Puts e t p = tt
