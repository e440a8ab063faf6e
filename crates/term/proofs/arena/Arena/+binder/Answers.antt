use Rattle.term.proofs.States.{no_binder}
use Rattle.term.proofs.arena.Arena.+binder.Goals as goal

pub returns-in_err-context : goal.returns-in_err-context
returns-in_err-context t c = rw (c.from_residual.ensures, c.in_err-context.was) (no_binder c.args.self.now c.args.k)
