use Rattle.std.proofs.Common.{arith}
use Rattle.printing.proofs.Texts.{spelt, then, cut, names_two}
use Rattle.printing.proofs.sink.Sink.names.Goals as goal

pub returns-in_err-binder-in_default : goal.returns-in_err-binder-in_default
returns-in_err-binder-in_default g c =
    let j = g.met.Self.Sink.joins in
    spelt j (names_two c.args.binders c.args.d (omega arith)) (cut j _ c.in_err-binder-in_default.ensures c.from_residual.ensures.0)

pub returns-in_err-put-in_default : goal.returns-in_err-put-in_default
returns-in_err-put-in_default g c =
    let j = g.met.Self.Sink.joins in
    spelt j (names_two c.args.binders c.args.d (omega arith))
    (then j c.in_ok-binder-in_default.ensures (cut j _ c.in_err-put-in_default.ensures c.from_residual-in_err-put-in_default.ensures.0))

pub returns-in_ok-put-in_default : goal.returns-in_ok-put-in_default
returns-in_ok-put-in_default g c =
    let j = g.met.Self.Sink.joins in
    spelt j (names_two c.args.binders c.args.d (omega arith))
    (then j c.in_ok-binder-in_default.ensures (then j c.in_ok-put-in_default.ensures c.binder-in_default-2.ensures))
