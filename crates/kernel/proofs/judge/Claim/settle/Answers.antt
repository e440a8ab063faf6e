use Rattle.term.specs.Cells.{bound}
use Rattle.term.specs.State.{term}
use Rattle.term.proofs.States.{bound_kept}
use Rattle.kernel.proofs.Statements.{unpaid, unstored, all_stored}
use Rattle.kernel.proofs.judge.Claim.settle.Goals as goal

pub returns-in_err-spend : goal.returns-in_err-spend
returns-in_err-spend g c S es w = unpaid {v = bound c.args.value (term c.args.arena.now)} c.from_residual.ensures.1 c.in_err-spend.ensures

pub returns-in_err-store : goal.returns-in_err-store
returns-in_err-store g c S es w =
    let s = c.in_ok-spend.ensures in
    let e = c.in_err-store.ensures in
    unstored c.from_residual-in_err-store.ensures.1 (s.kept.trees c.args.kind c.requires.kind) (bound_kept c.args.value s.kept c.requires.value) s e.0 e.1

pub returns : goal.returns
returns g c S es w =
    let s = c.in_ok-spend.ensures in
    all_stored c.requires.mark (s.kept.trees c.args.kind c.requires.kind) (bound_kept c.args.value s.kept c.requires.value) s c.in_ok-store.ensures
