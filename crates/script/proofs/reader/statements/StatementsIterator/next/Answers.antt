use Rattle.script.proofs.Counts.{first_left}
use Rattle.script.proofs.reader.statements.StatementsIterator.next.Goals as goal

pub returns-clause-steps : goal.returns-clause-steps
returns-clause-steps c = first_left c.next_statement.ensures
