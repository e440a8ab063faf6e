use Rattle.std.proofs.Common.{min, length, ap, ◌∙◌, arith}
use Rattle.script.proofs.Nearest.{clip}
use Rattle.script.proofs.statement.Span.bytes.Goals as goal

pub returns : goal.returns
returns c = clip c.args.script.now c.args.self.now.at c.args.self.now.len _ _ c.min-from.ensures (c.min-to.ensures ∙ ap (λ n. min n (length c.args.script.now)) c.saturating_add.ensures) (omega arith)
