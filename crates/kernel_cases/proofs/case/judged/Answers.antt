use Rattle.std.proofs.Common.{◌≤◌, arith}
use Rattle.normal.specs.Views as views
use Rattle.kernel_cases.proofs.case.judged.Goals as goal

pub judge-requires-clause-entries : goal.judge-requires-clause-entries
unfolding views.top
judge-requires-clause-entries g c = let none : 0 ≤ 0 = omega arith in none
