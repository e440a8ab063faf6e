use Rattle.script.proofs.Laws.{rejoins, cuts}
use Rattle.script.proofs.reader.Reader.new.Goals as goal

pub returns-clause-rejoins : goal.returns-clause-rejoins
returns-clause-rejoins c = rejoins _

pub returns-clause-cuts : goal.returns-clause-cuts
returns-clause-cuts c = cuts _
