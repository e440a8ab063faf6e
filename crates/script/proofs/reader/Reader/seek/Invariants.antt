use Rattle.std.proofs.Common.{◌-◌, length}
use Rattle.script.specs.View.{script}
use Rattle.script.proofs.Views.{Seeking}
use Rattle.script.proofs.reader.Reader.seek.Given as goal

abbrev pub invariant-loop-part : goal.invariant-loop-part
invariant-loop-part l = Seeking l.initial.self l.self

abbrev pub decreases-loop-part : goal.decreases-loop-part
decreases-loop-part l = length (script l.self) - l.self.at
