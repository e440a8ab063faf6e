-- Texts that are put into a sink, part after part.
use Rattle.std.specs.Prelude.{ℕ, List, [], ◌++◌, Ok, Err, Result}
use Rattle.printing.specs.declared.fault.PrintFault.{PrintFault}

-- no text, a text after another, and a text of which the first part does not fit
pub record PartsMakeTheWhole {S : Type 0} (gives : S → List ℕ → Result (Unit {0}) PrintFault → S → Type 0) : Type 0 where
  pub none : (s : S) → gives s [] (Ok tt) s
  pub next : (s m t : S) (a b : List ℕ) (r : Result (Unit {0}) PrintFault) → gives s a (Ok tt) m → gives m b r t → gives s (a ++ b) r t
  pub stop : (s t : S) (a b : List ℕ) (e : PrintFault) → gives s a (Err e) t → gives s (a ++ b) (Err e) t
