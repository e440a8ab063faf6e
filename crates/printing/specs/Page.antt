-- What a page holds of the texts that are put into it.
use Rattle.std.specs.Prelude.{◌≡◌, ℕ, ◌+◌, ◌<◌, ◌≤◌, List, [], ◌++◌, length, take, drop, Ok, Err, Result, MatchResult, refl}
use Rattle.std.proofs.Common.{sym, ap, ◌∙◌, arith, rules, length-append}
use Rattle.std.proofs.lemmas.List.{places, same_lists, take-append-drop}
use Rattle.printing.specs.declared.page.Page.{Page}
use Rattle.printing.specs.declared.fault.PrintFault.{PrintFault}
use Rattle.printing.specs.declared.fault.PrintFault.TheVariants.{OutputShort}
use Rattle.printing.specs.Parts.{PartsMakeTheWhole}

-- the bytes with a text put in at a place
unfoldable pub written : List ℕ → ℕ → List ℕ → List ℕ
written was at text = take at was ++ (text ++ drop (at + length text) was)

-- a text was written at the page's place, which is now past it; or there are too few bytes for it
pub record Writes (was : Page) (text : List ℕ) (r : Result (Unit {0}) PrintFault) (is : Page) : Type 0 where
  pub same : is.out.ghost_name ≡ was.out.ghost_name
  pub long : length is.out.now ≡ length was.out.now
  pub made : MatchResult r (λ _. (is.at ≡ was.at + length text) × (is.out.now ≡ written was.out.now was.at text)) (λ e. (e ≡ OutputShort) × (length was.out.now < was.at + length text))

written_none : (was : List ℕ) (at : ℕ) → written was at [] ≡ was
unfolding written
written_none was at = ap (λ n. take at was ++ drop n was) (omega arith) ∙ take-append-drop at was

written_next : (was : List ℕ) (at : ℕ) (a b : List ℕ) → at + (length a + length b) ≤ length was → written (written was at a) (at + length a) b ≡ written was at (a ++ b)
unfolding written
written_next was at a b h = same_lists _ _ (search (rules, places)) (λ k d l. grind (arith, places))

next : (s m t : Page) (a b : List ℕ) (r : Result (Unit {0}) PrintFault) → Writes s a (Ok tt) m → Writes m b r t → Writes s (a ++ b) r t
next s m t a b (Ok u) x y =
    let l = length-append a b in
    let g = x.long in
    let p = x.made.0 in
    let q = y.made.0 in
    let k = y.long in
    let i = t.inside in
    record {
      same = y.same ∙ x.same;
      long = y.long ∙ x.long;
      made = (
        omega arith,
        y.made.1 ∙ ap (λ n. written m.out.now n b) x.made.0 ∙ ap (λ w. written w (s.at + length a) b) x.made.1
            ∙ written_next s.out.now s.at a b (omega arith),
      );
    }
next s m t a b (Err e) x y =
    let l = length-append a b in
    let g = x.long in
    let p = x.made.0 in
    let q = y.made.1 in
    record { same = y.same ∙ x.same; long = y.long ∙ x.long; made = (y.made.0, omega arith) }

stop : (s t : Page) (a b : List ℕ) (e : PrintFault) → Writes s a (Err e) t → Writes s (a ++ b) (Err e) t
stop s t a b e x = let l = length-append a b in let p = x.made.1 in record { same = x.same; long = x.long; made = (x.made.0, omega arith) }

pub writes_parts : PartsMakeTheWhole Writes
writes_parts = record {
  none = λ s. record { same = refl; long = refl; made = (omega arith, sym (written_none s.out.now s.at)) };
  next = next;
  stop = stop;
}
