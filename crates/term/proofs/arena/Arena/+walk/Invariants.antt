use Rattle.term.proofs.arena.Arena.+walk.Given as goal

abbrev pub decreases-walk : goal.decreases-walk
decreases-walk g l = l.id
