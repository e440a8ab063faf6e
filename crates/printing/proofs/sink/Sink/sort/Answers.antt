use Rattle.std.proofs.Common.{arith, refl}
use Rattle.printing.proofs.Texts.{sort_from_two, spelt, then, cut}
use Rattle.printing.proofs.sink.Sink.sort.Goals as goal

pub returns-in_err-put-in_default : goal.returns-in_err-put-in_default
returns-in_err-put-in_default g c =
    let j = g.met.Self.Sink.joins in
    spelt j (sort_from_two c.args.s c.args.s (omega arith) refl) (cut j _ c.in_err-put-in_default.ensures c.from_residual.ensures.0)

pub returns-in_ok-put-in_default : goal.returns-in_ok-put-in_default
returns-in_ok-put-in_default g c =
    let j = g.met.Self.Sink.joins in
    spelt j (sort_from_two c.args.s c.from.result (omega arith) c.from.ensures) (then j c.in_ok-put-in_default.ensures c.number.ensures)
