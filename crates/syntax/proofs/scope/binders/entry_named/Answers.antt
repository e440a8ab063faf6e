use Rattle.syntax.proofs.Scopes.{entry_found}
use Rattle.syntax.proofs.scope.binders.entry_named.Goals as goal

pub returns : goal.returns
returns c = entry_found c.args.script.now c.args.name.now c.args.entries.now c.find.result c.find.ensures
