use Rattle.term.proofs.arena.Arena.+equal.Given as goal

abbrev pub decreases-equal : goal.decreases-equal
decreases-equal l = l.a
