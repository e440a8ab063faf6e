use Rattle.std.proofs.Common.{arith}
use Rattle.std.proofs.lemmas.Fmt.{decimal_step}
use Rattle.printing.proofs.Texts.{digit, spelt, then, cut}
use Rattle.printing.proofs.sink.Sink.+number.Goals as goal

pub returns-then-n-lt10 : goal.returns-then-n-lt10
returns-then-n-lt10 g t c = spelt g.met.Self.Sink.joins (digit c.args.n (omega arith)) c.put.ensures

pub returns-in_err-number : goal.returns-in_err-number
returns-in_err-number g t c =
    let j = g.met.Self.Sink.joins in
    spelt j (decimal_step c.args.n (omega arith) (omega arith)) (cut j _ c.in_err-number.ensures c.from_residual.ensures.0)

pub returns : goal.returns
returns g t c =
    let j = g.met.Self.Sink.joins in
    spelt j (decimal_step c.args.n (omega arith) (omega arith)) (then j c.in_ok-number.ensures c.put-2.ensures)
