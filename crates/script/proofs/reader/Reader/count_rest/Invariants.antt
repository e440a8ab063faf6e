use Rattle.std.proofs.Common.{◌-◌, length}
use Rattle.script.specs.View.{script}
use Rattle.script.proofs.Counts.{Counting}
use Rattle.script.proofs.reader.Reader.count_rest.Given as goal

abbrev pub invariant-loop-lexeme : goal.invariant-loop-lexeme
invariant-loop-lexeme l = Counting l.initial.tally l.initial.self l.self l.tally

abbrev pub decreases-loop-lexeme : goal.decreases-loop-lexeme
decreases-loop-lexeme l = length (script l.self) - l.self.at
