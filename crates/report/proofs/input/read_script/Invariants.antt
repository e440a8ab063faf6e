use Rattle.std.proofs.Common.{◌≤◌, length}
use Rattle.std.specs.Io.KnownBytes.{Consumes}
use Rattle.report.proofs.input.read_script.Given as goal

abbrev pub invariant-loop : goal.invariant-loop
invariant-loop g l = (l.counter ≤ length l.script.items) × Consumes (g.R.Read.remaining l.initial.input) (g.R.Read.remaining l.input) l.script.items
