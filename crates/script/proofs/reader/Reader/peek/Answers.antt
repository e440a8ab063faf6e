use Rattle.std.proofs.Common.{arith}
use Rattle.script.proofs.Views.{peeked, peeked_end}
use Rattle.script.proofs.reader.Reader.peek.Goals as goal

pub returns-in_err-piece : goal.returns-in_err-piece
returns-in_err-piece c = rw c.from_residual.ensures (peeked_end _ _ _ _ c.fresh.ensures c.rest.ensures.value c.in_err-piece.ensures (omega arith))

pub returns : goal.returns
returns c = peeked _ _ _ _ _ c.fresh.ensures c.rest.ensures.value c.in_ok-piece.ensures (omega arith)
