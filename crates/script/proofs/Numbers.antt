-- The value of digits, counted one by one, is the number that they write.
use Rattle.std.proofs.Common.{◌≡◌, ℕ, ◌+◌, ◌-◌, ◌*◌, ◌≤◌, Bool, true, false, cond, not, ◌&&◌, eqb, leb, List, [], ◌∷◌, Some, None, Option, sym, refl, ap, ◌∙◌, arith}
use Rattle.std.specs.Char.{is_ascii_digit, digit_value}
use Rattle.std.specs.Str.Parse.{digits_value, digits_value_after}
use Rattle.std.specs.List.{AllByRecursion}
use Rattle.std.proofs.lemmas.Bool.{cond-true, cond-false, le-leb, lt-leb, leb-true, leb-false}
use Rattle.std.proofs.lemmas.Bool.Decides.{nat_tests}
use Rattle.script.specs.declared.token.Kind.{Kind}
use Rattle.script.specs.declared.token.Kind.TheVariants.{Number, NoToken}
use Rattle.script.specs.Tokens.{number_kind}
use Rattle.script.specs.Scan.{value_to, number_in, judged_number}

grows : (n : ℕ) (w : List ℕ) → n ≤ digits_value_after 10 n w
grows n [] = omega arith
grows n (b ∷ w) = omega (arith, grows (n * 10 + digit_value b) w)

digit_is : (b : ℕ) → is_ascii_digit b ≡ true → digit_value b ≡ b - 48
digit_is b e = grind (arith, nat_tests)

digit_small : (b : ℕ) → is_ascii_digit b ≡ true → digit_value b ≤ 9
digit_small b e = grind (arith, nat_tests)

abbrev limited : ℕ → Option ℕ
limited v = cond (leb v 65535) (Some v) None

more_by : (t : Bool) (k : ℕ) (w : List ℕ) → leb k 65535 ≡ t → (k ≤ 65535 → value_to k w ≡ limited (digits_value_after 10 k w)) → cond t (value_to k w) None ≡ limited (digits_value_after 10 k w)
more_by true k w e f = f (leb-true k 65535 e)
more_by false k w e f = sym (cond-false _ _ _ (lt-leb (digits_value_after 10 k w) 65535 (omega (arith, grows k w, leb-false k 65535 e))))

-- of digits, the value or none past 65,535
value_is : (n : ℕ) (w : List ℕ) → AllByRecursion (λ b. is_ascii_digit b ≡ true) w → n ≤ 65535 → value_to n w ≡ limited (digits_value_after 10 n w)
value_is n [] d h = sym (cond-true _ _ _ (le-leb _ _ h))
value_is n (b ∷ w) d h =
    ap (λ t. cond (t && leb (n * 10 + (b - 48)) 65535) (value_to (n * 10 + (b - 48)) w) None) d.0
    ∙ more_by (leb (n * 10 + (b - 48)) 65535) (n * 10 + (b - 48)) w refl (λ k. value_is (n * 10 + (b - 48)) w d.1 k)
    ∙ ap (λ v. limited (digits_value_after 10 (n * 10 + v) w)) (sym (digit_is b d.0))

in_by : (t : Bool) (n : ℕ) → number_in (cond t (Some n) None) ≡ cond t (Number n) NoToken
in_by true n = refl
in_by false n = refl

zero_by : (z t : Bool) (x y : Kind) → cond z y (cond t x y) ≡ cond (not z && t) x y
zero_by true t x y = refl
zero_by false t x y = refl

pub judged_is : (w : List ℕ) → AllByRecursion (λ b. is_ascii_digit b ≡ true) w → judged_number w ≡ number_kind w
judged_is [] d = refl
judged_is (b ∷ []) d =
    ap number_in (value_is 0 (b ∷ []) d (omega arith)) ∙ in_by (leb (digits_value 10 (b ∷ [])) 65535) _
    ∙ cond-true _ _ _ (le-leb (0 * 10 + digit_value b) 65535 (omega (arith, digit_small b d.0)))
judged_is (b ∷ c ∷ bs) d =
    ap (λ o. cond (eqb b 48) NoToken (number_in o)) (value_is 0 (b ∷ c ∷ bs) d (omega arith))
    ∙ ap (cond (eqb b 48) NoToken) (in_by (leb (digits_value 10 (b ∷ c ∷ bs)) 65535) _)
    ∙ zero_by (eqb b 48) _ _ _
