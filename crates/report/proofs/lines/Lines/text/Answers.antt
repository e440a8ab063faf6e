use Rattle.std.proofs.lemmas.Result.{on_ok_weaker}
use Rattle.report.proofs.Texts.{then_more, as_line}
use Rattle.report.proofs.lines.Lines.text.Goals as goal

pub returns : goal.returns
returns c =
    on_ok_weaker c.end.result (λ ended. as_line c.args.key.now c.args.value.now
    (then_more (record { whole = c.in_ok-extend_from_slice.ensures.items })
    (then_more (record { whole = c.in_ok-extend_from_slice-2.ensures.items }) ended)))
    c.end.ensures
