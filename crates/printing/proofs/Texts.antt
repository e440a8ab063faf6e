-- Texts by the parts that are put one after another.
use Rattle.std.proofs.Common.{◌≡◌, ℕ, zero, suc, ◌+◌, ◌%◌, ◌<◌, ◌≤◌, true, List, [], ◌∷◌, ◌++◌, length, take, drop, codes, decimal, is_err, Ok, Err, Result, sym, ap, ◌∙◌, subst, arith, rules}
use borrow.Rule.Slice.PartMut.{put_mid}
use Rattle.std.proofs.lemmas.Fmt.{decimal_digit}
use Rattle.std.proofs.lemmas.List.{places, drop-drop}
use Rattle.grammar.specs.Text.{binder_name, sort_text}
use Rattle.printing.specs.Layout.{names_text}
use Rattle.printing.specs.Page.{written}
use Rattle.printing.specs.Parts.{PartsMakeTheWhole}
use Rattle.printing.specs.declared.fault.PrintFault.{PrintFault}
use Rattle.printing.specs.declared.fault.PrintFault.TheVariants.{OutputShort}

pub put_is : (was : List ℕ) (at k : ℕ) (ys text : List ℕ) → ys ≡ text → k ≡ length text → put_mid at k was ys ≡ written was at text
unfolding written
put_is was at k ys text e h =
    ap (λ z. take at was ++ (z ++ drop k (drop at was))) e ∙ ap (λ z. take at was ++ (text ++ z)) (drop-drop k at was ∙ ap (λ n. drop (at + n) was) h)

pub length_written : (was : List ℕ) (at : ℕ) (a : List ℕ) → at + length a ≤ length was → length (written was at a) ≡ length was
unfolding written
length_written was at a h = search (rules, places)

-- how a sink takes the parts of a text
module _ {S : Type 0} {gives : S → List ℕ → Result (Unit {0}) PrintFault → S → Type 0} (laws : PartsMakeTheWhole gives) where
  -- the first part was put, and then the others
  pub then : {s m t : S} {a b : List ℕ} {r : Result (Unit {0}) PrintFault} → gives s a (Ok tt) m → gives m b r t → gives s (a ++ b) r t
  then {s} {m} {t} {a} {b} {r} x y = laws.next s m t a b r x y

  -- the first part does not fit, so the text does not
  pub cut : {s t : S} {a : List ℕ} {e : PrintFault} {r : Result (Unit {0}) PrintFault} (b : List ℕ) → gives s a (Err e) t → is_err r ≡ true → gives s (a ++ b) r t
  cut {s} {t} {a} {e} {r = Ok n} b x h = absurd (let z : ◌≡◌ {A = ℕ} 0 1 = cc in omega arith)
  cut {s} {t} {a} {e = OutputShort} {r = Err OutputShort} b x h = laws.stop s t a b OutputShort x

  -- together they are the text
  pub spelt : {s t : S} {whole parts : List ℕ} {r : Result (Unit {0}) PrintFault} → whole ≡ parts → gives s parts r t → gives s whole r t
  spelt {s} {t} {r = r} e x = subst (λ w. gives s w r t) (sym e) x

pub digit : (n : ℕ) → n < 10 → decimal n ≡ (48 + n % 10) ∷ []
digit n h = let e : n ≡ n % 10 = omega arith in decimal_digit n h ∙ ap (λ m. (48 + m) ∷ []) e

pub sort_from_two : (s n : ℕ) → 2 ≤ s → n ≡ s → sort_text s ≡ codes "Sort " ++ decimal n
sort_from_two zero n h e = absurd (omega arith)
sort_from_two (suc zero) n h e = absurd (omega arith)
sort_from_two (suc (suc s)) n h e = ap (λ m. codes "Sort " ++ decimal m) (sym e)

pub names_two : (n d : ℕ) → 2 ≤ n → names_text n d ≡ binder_name d ++ (codes ", " ++ binder_name (d + 1))
names_two zero d h = absurd (omega arith)
names_two (suc zero) d h = absurd (omega arith)
names_two (suc (suc n)) d h =
    let e : suc d ≡ d + 1 = omega arith in
    ap (λ m. binder_name d ++ (codes ", " ++ binder_name m)) e
