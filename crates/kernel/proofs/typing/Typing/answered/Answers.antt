use Rattle.std.proofs.Common.{refl}
use Rattle.kernel.proofs.Logic.{answered, unanswered, stored}
use Rattle.kernel.proofs.typing.Typing.answered.Goals as goal

pub returns-in_err-sort : goal.returns-in_err-sort
returns-in_err-sort g c X es q e =
    let n = c.in_err-sort.ensures in
    unanswered e c.from_residual.ensures.1 n.ok_part n.value c.refused.ensures

pub returns : goal.returns
returns g c X es q e = answered e c.in_ok-sort.ensures.ok_part (stored refl c.add.ensures)
