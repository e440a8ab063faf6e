use Rattle.std.proofs.Common.{◌+◌, vec_items}
use Rattle.script.specs.Left.{left}
use Rattle.script.specs.Statements.{statements_from}
use Rattle.report.specs.Told.{TellsAll}
use Rattle.report.proofs.Statements.{Continues}
use Rattle.report.proofs.told.told.Given as goal

abbrev pub invariant-loop-i : goal.invariant-loop-i
invariant-loop-i g l =
    Continues g.T.Teller.tells l.teller (l.i-iterator.count + 1) (left l.i-iterator.iter) (vec_items l.lines.bytes)
    (TellsAll g.T.Teller.tells l.fn.teller 1 (statements_from l.script 0))
