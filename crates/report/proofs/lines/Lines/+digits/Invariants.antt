use Rattle.report.proofs.lines.Lines.+digits.Given as goal

abbrev pub decreases-digits : goal.decreases-digits
decreases-digits l = l.value
