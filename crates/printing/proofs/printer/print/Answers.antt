use Rattle.std.proofs.Common.{refl, rules}
use Rattle.printing.proofs.Prints.{prints, prints_back, refuses}
use Rattle.printing.proofs.printer.print.Goals as goal

pub returns-in_err-text-clause-printed : goal.returns-in_err-text-clause-printed
returns-in_err-text-clause-printed c = refuses _ _ _ _ c.args.out.now _ refl c.in_err-text.ensures c.from_residual.result c.from_residual.ensures.0

pub returns-clause-printed : goal.returns-clause-printed
returns-clause-printed c = prints _ _ _ _ _ _ _ refl refl (search rules) c.in_ok-text.ensures c.in_ok-text-2.ensures

pub returns-clause-back : goal.returns-clause-back
returns-clause-back c = prints_back _ _ _ _ _ _ _ refl refl (search rules) c.in_ok-text.ensures c.in_ok-text-2.ensures
