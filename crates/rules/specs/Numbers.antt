-- The numbers by which refusals are told.
use Rattle.std.specs.Prelude.{ℕ}
use Rattle.rules.specs.declared.refusal.Reason.{Reason}
use Rattle.rules.specs.declared.refusal.Reason.TheVariants.{NoRule, OtherForm, Unequal, Escapes, NoSort}

abbrev pub number : Reason → ℕ
number NoRule = 7
number OtherForm = 8
number Unequal = 9
number Escapes = 10
number NoSort = 11
