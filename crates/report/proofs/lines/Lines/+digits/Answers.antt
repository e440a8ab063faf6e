use Rattle.std.proofs.Common.{ap, arith}
use Rattle.report.proofs.Texts.{one_digit, last_digit}
use Rattle.report.proofs.lines.Lines.+digits.Goals as goal
use Rattle.report.proofs.lines.Lines.+digits.Goals.{then-value-ge10+in_ok-digits, else-value-ge10}

pub returns : goal.returns
returns t c =
    let n = c.args.value in
    elim c.if-value-ge10.branch [
      | then-value-ge10+in_ok-digits w ↦
          last_digit n (omega arith) (omega arith) w.in_ok-digits.ensures (ap (λ l. l.bytes.items) w.self-is) c.in_ok-push.ensures.items
      | else-value-ge10 w ↦ one_digit n w.if-value-ge10.false (ap (λ l. l.bytes.items) w.self-is) c.in_ok-push.ensures.items
    ]
