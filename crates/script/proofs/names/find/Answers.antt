use Rattle.std.proofs.Common.{rules}
use Rattle.script.proofs.Nearest.{last_is_nearest}
use Rattle.script.proofs.names.find.Goals as goal

pub returns : goal.returns
returns g c = last_is_nearest _ c.args.records.now _ (search rules)
