use Rattle.std.proofs.Common.{◌≡◌, drop}
use Rattle.script.specs.Scan.{value_to}
use Rattle.script.proofs.lex.value.Given as goal

abbrev pub invariant-loop-b : goal.invariant-loop-b
invariant-loop-b l = value_to l.n (drop l.b-index l.w) ≡ value_to 0 l.w
