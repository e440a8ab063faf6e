use Rattle.std.proofs.Common.{codes}
use Rattle.printing.proofs.Texts.{then, cut}
use Rattle.printing.proofs.sink.Sink.binder.Goals as goal

pub returns-in_err-put : goal.returns-in_err-put
returns-in_err-put g c = cut g.met.Self.Sink.joins {a = codes "_"} _ c.in_err-put.ensures c.from_residual.ensures.0

pub returns : goal.returns
returns g c = then g.met.Self.Sink.joins {a = codes "_"} c.in_ok-put.ensures c.number.ensures
