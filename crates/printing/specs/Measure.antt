-- What a measure says of the texts that are put into it.
use Rattle.std.specs.Prelude.{◌≡◌, ℕ, ◌+◌, ◌<◌, List, ◌++◌, length, Ok, Err, Result, MatchResult}
use Rattle.std.proofs.Common.{arith, length-append}
use Rattle.printing.specs.declared.measure.Measure.{Measure}
use Rattle.printing.specs.declared.fault.PrintFault.{PrintFault}
use Rattle.printing.specs.declared.fault.PrintFault.TheVariants.{OutputShort}
use Rattle.printing.specs.Parts.{PartsMakeTheWhole}

-- a text was counted off the room; or there is too little room for it
pub record Measures (was : Measure) (text : List ℕ) (r : Result (Unit {0}) PrintFault) (is : Measure) : Type 0 where
  pub made : MatchResult r (λ _. is.room + length text ≡ was.room) (λ e. (e ≡ OutputShort) × (was.room < length text))

next : (s m t : Measure) (a b : List ℕ) (r : Result (Unit {0}) PrintFault) → Measures s a (Ok tt) m → Measures m b r t → Measures s (a ++ b) r t
next s m t a b (Ok u) x y = let l = length-append a b in let p = x.made in let q = y.made in record { made = omega arith }
next s m t a b (Err e) x y = let l = length-append a b in let p = x.made in let q = y.made.1 in record { made = (y.made.0, omega arith) }

stop : (s t : Measure) (a b : List ℕ) (e : PrintFault) → Measures s a (Err e) t → Measures s (a ++ b) (Err e) t
stop s t a b e x = let l = length-append a b in let p = x.made.1 in record { made = (x.made.0, omega arith) }

pub measures_parts : PartsMakeTheWhole Measures
measures_parts = record { none = λ s. record { made = omega arith }; next = next; stop = stop }
