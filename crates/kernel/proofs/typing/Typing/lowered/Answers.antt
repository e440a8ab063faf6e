use Rattle.term.specs.State.{term}
use Rattle.kernel.proofs.Logic.{lower_or, lowered_short}
use Rattle.kernel.proofs.typing.Typing.lowered.Goals as goal

pub returns-in_err-lower : goal.returns-in_err-lower
returns-in_err-lower g c X es = lowered_short c.args.n (term c.args.arena.now c.args.id) c.from_residual.ensures.1 c.in_err-lower.ensures

pub returns : goal.returns
returns g c X es = rw c.ok_or.ensures.value (lower_or c.args.n (term c.args.arena.now c.args.id) _ c.refused.ensures c.in_ok-lower.ensures)
