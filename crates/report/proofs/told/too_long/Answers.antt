use Rattle.report.proofs.Statements.{too_long_line}
use Rattle.report.proofs.told.too_long.Goals as goal

pub returns : goal.returns
returns c = too_long_line _ _ c.new.ensures.items c.in_ok-number.ensures
