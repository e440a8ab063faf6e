use Rattle.term.proofs.arena.Arena.+binder.Given as goal

abbrev pub decreases-binder : goal.decreases-binder
decreases-binder l = l.k
