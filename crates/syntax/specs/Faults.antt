-- The refusals of reading, by number and place.
use Rattle.std.specs.Prelude.{ℕ}
use Rattle.syntax.specs.declared.fault.SyntaxFault.{SyntaxFault}
use Rattle.syntax.specs.declared.fault.SyntaxFault.TheVariants.{Misfit, UnknownName, KnownName}

abbrev pub fault_number : SyntaxFault → ℕ
fault_number (Misfit at) = 3
fault_number (UnknownName at) = 4
fault_number (KnownName at) = 5

abbrev pub fault_place : SyntaxFault → ℕ
fault_place (Misfit at) = at
fault_place (UnknownName at) = at
fault_place (KnownName at) = at
