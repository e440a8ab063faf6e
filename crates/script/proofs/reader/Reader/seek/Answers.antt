use Rattle.std.proofs.Common.{◌∙◌, arith}
use Rattle.script.proofs.Views.{found_at, end_ahead, lexeme_ahead, gap_passed}
use Rattle.script.proofs.reader.Reader.seek.Goals as goal

pub returns : goal.returns
returns c = found_at c.loop-part.invariant (end_ahead _ _ c.in_default.ensures)

pub returns-in-Some-kind : goal.returns-in-Some-kind
returns-in-Some-kind c = found_at c.loop-part.invariant (lexeme_ahead _ _ c.in-Some.part c.in-Some-kind.kind c.in-Some.ensures c.in-Some-kind.is)

pub loop-part-preserved : goal.loop-part-preserved
loop-part-preserved c =
    record {
      script = c.loop-part.invariant.script;
      same = c.loop-part.invariant.same ∙ gap_passed _ _ c.in-Some.part c.in-Some.ensures c.in_default-kind.is;
      forward = omega (arith, c.loop-part.invariant.forward);
    }
