-- What the faults of typing mean.
use Rattle.std.specs.Prelude.{ℕ}
use Rattle.rules.specs.declared.refusal.Reason.TheVariants.{OtherForm}
use Rattle.rules.specs.declared.refusal.Layer.TheVariants.{Typing}
use Rattle.rules.specs.Derivation.{Spot, refusal}
use Rattle.normal.specs.declared.halt.Halt.{Halt}
use Rattle.normal.specs.declared.halt.Halt.TheVariants as halt
use Rattle.normal.specs.Runs.{at, Outcome}
use Rattle.kernel.specs.declared.fault.Fault.{Fault}
use Rattle.kernel.specs.declared.fault.Fault.TheVariants.{Spent, Refused}

-- a term at p is typed
abbrev pub typing : ℕ → Spot
typing p = record { place = p; layer = Typing }

-- a fault of normalising as one of typing
abbrev pub passed : Halt → Fault
passed halt.Spent = Spent
passed (halt.Stuck p) = Refused (refusal OtherForm (at p))

abbrev pub faulted : Fault → Outcome
faulted Spent = Outcome.spent
faulted (Refused r) = Outcome.refused r
