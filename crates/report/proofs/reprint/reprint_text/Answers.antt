use Rattle.std.proofs.Common.{vec_items}
use Rattle.report.proofs.Statements.{reprinted}
use Rattle.report.proofs.reprint.reprint_text.Goals as goal

pub returns-clause-all : goal.returns-clause-all
returns-clause-all c = λ h. reprinted vec_items c.args.script.now _ c.told.result c.in_ok-new.ensures (c.told.ensures.all h)
