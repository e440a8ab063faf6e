use Rattle.std.proofs.Common.{refl, vec_items}
use Rattle.report.proofs.Statements.{outlined}
use Rattle.report.proofs.outline.outline_text.Goals as goal

pub returns : goal.returns
returns c = outlined vec_items c.args.script.now _ c.told.result refl c.told.ensures.long c.told.ensures.all
