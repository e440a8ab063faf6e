use Rattle.report.proofs.Reprints.{emptied}
use Rattle.report.proofs.reprint.cleared.Goals as goal

pub returns : goal.returns
returns c = emptied _ _ _ c.in-Ok.ensures c.allot.ensures
