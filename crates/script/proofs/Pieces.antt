-- Pieces at the front of bytes.
use Rattle.std.proofs.Common.{◌≡◌, ℕ, ◌<◌, ◌≤◌, Bool, true, false, cond, List, [], ◌∷◌, length, get_or, take, sym, refl, ap, ◌∙◌, subst, ap₂, one-add, arith}
use Rattle.std.specs.Char.{is_ascii_digit}
use Rattle.std.specs.List.{prefix_len, AllByRecursion}
use Rattle.std.proofs.lemmas.Bool.{cond_both}
use Rattle.std.proofs.lemmas.List.Sums.{prefix_len_is}
use Rattle.script.specs.declared.token.Kind.{Kind}
use Rattle.script.specs.Tokens.{letter, word_byte, word_kind, word_piece, number_piece, symbol_piece, token_piece, token}
use Rattle.script.specs.Scan.{judged_number, token_of}
use Rattle.script.proofs.Numbers.{judged_is}

-- the bytes that lead are all of the class
pub leads : (p : ℕ → Bool) (bs : List ℕ) → AllByRecursion (λ b. p b ≡ true) (take (prefix_len p bs) bs)
leads p [] = tt
leads p (b ∷ bs) =
    cond_both (p b) _ _ (λ n. AllByRecursion (λ c. p c ≡ true) (take n (b ∷ bs)))
    (λ e. subst (λ n. AllByRecursion (λ c. p c ≡ true) (take n (b ∷ bs))) (sym (one-add (prefix_len p bs))) (e, leads p bs))
    (λ e. tt)

-- the first n bytes are all that lead
pub record Leading (p : ℕ → Bool) (bs : List ℕ) (n : ℕ) : Type 0 where
  pub within : n ≤ length bs
  pub passes : (k : ℕ) → k < n → p (get_or bs k 0) ≡ true
  pub stops : n < length bs → p (get_or bs n 0) ≡ false

pub leading : (p : ℕ → Bool) (bs : List ℕ) {n : ℕ} → Leading p bs n → n ≡ prefix_len p bs
leading p bs {n} h = sym (prefix_len_is p bs n 0 h.within h.passes h.stops)

-- a word and a number, by the bytes that lead
pub word_leads : (bs : List ℕ) {n : ℕ} (k : Kind) → Leading word_byte bs n → k ≡ word_kind (take n bs) → token k n ≡ word_piece bs
word_leads bs k h w = let e = leading word_byte bs h in ap₂ token (w ∙ ap (λ m. word_kind (take m bs)) e) e

pub number_leads : (bs : List ℕ) {n : ℕ} (k : Kind) → Leading is_ascii_digit bs n → k ≡ judged_number (take n bs) → token k n ≡ number_piece bs
number_leads bs k h w = let e = leading is_ascii_digit bs h in ap₂ token (w ∙ ap (λ m. judged_number (take m bs)) e ∙ judged_is _ (leads is_ascii_digit bs)) e

-- the lexeme, by the first byte
pub token_is : (bs : List ℕ) → 0 < length bs → token_of bs ≡ cond (letter (get_or bs 0 0)) (word_piece bs) (cond (is_ascii_digit (get_or bs 0 0)) (number_piece bs) (symbol_piece bs))
unfolding token_piece
token_is [] h = absurd (omega arith)
token_is (b ∷ bs) h = refl
