use Rattle.term.proofs.arena.Arena.+any_local.Given as goal

abbrev pub decreases-any_local : goal.decreases-any_local
decreases-any_local g l = l.id
