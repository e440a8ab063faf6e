use Rattle.term.proofs.arena.Arena.+pay.Given as goal

abbrev pub decreases-pay : goal.decreases-pay
decreases-pay l = l.id
