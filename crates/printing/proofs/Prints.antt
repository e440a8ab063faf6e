-- What was measured is written, and what was written reads back.
use Rattle.std.proofs.Common.{◌≡◌, ℕ, ◌+◌, true, List, ◌++◌, length, take, drop, is_err, Ok, Err, Result, sym, ap, ◌∙◌, subst, refl, arith}
use Rattle.std.proofs.lemmas.List.{take_at}
use Rattle.script.specs.Parts.{lexemes_from}
use Rattle.term.specs.Term.{Term}
use Rattle.grammar.specs.Words.{words}
use Rattle.grammar.specs.RoundTrip.{ReadsAs}
use Rattle.grammar.proofs.RoundTrip.{round_trip}
use Rattle.grammar.specs.Grammar.{Name}
use Rattle.grammar.specs.Text.{text}
use Rattle.printing.specs.declared.fault.PrintFault.{PrintFault}
use Rattle.printing.specs.declared.fault.PrintFault.TheVariants.{OutputShort}
use Rattle.printing.specs.declared.measure.Measure.{Measure}
use Rattle.printing.specs.declared.page.Page.{Page}
use Rattle.printing.specs.Layout.{shown}
use Rattle.printing.specs.Measure.{Measures}
use Rattle.printing.specs.Page.{written, Writes}
use Rattle.printing.specs.Output.{Printed, ReadsBack}

-- what was printed reads back
pub reads_back : (entries : List Name) (t : Term) (was is : List ℕ) (r : Result ℕ PrintFault) → Printed entries t was is r → ReadsBack entries t is r
reads_back entries t was is (Ok n) p = λ s at end rest e good ok q.
    let same : take n is ≡ text entries 0 t = ap (take n) p.1 ∙ take_at (text entries 0 t) (drop n was) n (sym p.0) in
    subst (λ m. ReadsAs entries end 0 (words s (lexemes_from s at)) (words s (lexemes_from s (at + m))) t) (sym p.0)
    (round_trip s at entries end 0 t rest (e ∙ ap (λ w. w ++ rest) same) good ok q)
reads_back entries t was is (Err e) p = tt

-- what fits is written
module _ (entries : List Name) (t : Term) (m n : Measure) (p q : Page) (is : List ℕ) (room : m.room ≡ length p.out.now) (front : p.at ≡ 0) (left : is ≡ q.out.now) (measured : Measures m (shown entries 0 t) (Ok tt) n) (wrote : Writes p (shown entries 0 t) (Ok tt) q) where
  pub prints : Printed entries t p.out.now is (Ok q.at)
  unfolding shown written
  prints =
      let end : q.at ≡ length (text entries 0 t) = omega (arith, wrote.made.0) in
      (end, left ∙ wrote.made.1 ∙ ap (λ k. written p.out.now k (text entries 0 t)) front ∙ ap (λ k. text entries 0 t ++ drop k p.out.now) (omega arith))

  pub prints_back : ReadsBack entries t is (Ok q.at)
  prints_back = reads_back entries t p.out.now is (Ok q.at) prints

-- what does not fit is not written
module _ (entries : List Name) (t : Term) (m n : Measure) (was : List ℕ) (e : PrintFault) (room : m.room ≡ length was) (measured : Measures m (shown entries 0 t) (Err e) n) where
  pub refuses : (r : Result ℕ PrintFault) → is_err r ≡ true → Printed entries t was was r
  unfolding shown
  refuses (Ok k) h = absurd (let z : ◌≡◌ {A = ℕ} 0 1 = cc in omega arith)
  refuses (Err OutputShort) h = (refl, omega (arith, measured.made.1), refl)
