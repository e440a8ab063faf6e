use Rattle.rules.proofs.Together.{laws}
use Rattle.rules.proofs.laws.one_outcome.Goals as goal

pub returns : goal.returns
returns c = laws
