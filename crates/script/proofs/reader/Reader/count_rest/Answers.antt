use Rattle.std.proofs.Common.{sym, refl}
use Rattle.script.proofs.Counts.{goes_on, stops_end, stops_first}
use Rattle.script.proofs.reader.Reader.count_rest.Goals as goal

pub returns-in_default : goal.returns-in_default
returns-in_default c = stops_end c.loop-lexeme.invariant c.in_default.ensures

pub returns-then-begins_statement : goal.returns-then-begins_statement
returns-then-begins_statement c = stops_first c.loop-lexeme.invariant c.in-Some.ensures (sym c.if-begins_statement.ensures)

pub loop-lexeme-preserved : goal.loop-lexeme-preserved
loop-lexeme-preserved c = goes_on c.loop-lexeme.invariant c.in-Some.ensures (sym c.if-begins_statement.ensures) c.with-tally.ensures refl refl
