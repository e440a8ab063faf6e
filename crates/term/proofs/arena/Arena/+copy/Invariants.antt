use Rattle.term.proofs.arena.Arena.+copy.Given as goal

abbrev pub decreases-copy : goal.decreases-copy
decreases-copy l = l.id
