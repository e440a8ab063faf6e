use Rattle.std.proofs.Common.{◌∙◌, ap, ap₂, inl}
use Rattle.report.specs.Told.{TellsAll}
use Rattle.script.specs.Left.{left}
use Rattle.script.specs.Statements.{statements_from}
use Rattle.report.proofs.Few.{counts_fit}
use Rattle.report.proofs.Statements.{told, told_all}
use Rattle.report.proofs.told.told.Goals as goal

pub loop-i-init-derived : goal.loop-i-init-derived
loop-i-init-derived g c =
    let begun = c.into_iter-i-iterator.ensures.into_iter_gives in
    let count = ap (λ x. x.count) begun ∙ c.enumerate-i-items.ensures.count in
    let sts = ap (λ x. left x.iter) begun ∙ ap left c.enumerate-i-items.ensures.source ∙ c.statements.ensures.value ∙ ap₂ statements_from c.new-2.ensures.start.0 c.new-2.ensures.start.1 in
    ((tt, tt, inl (counts_fit c.args.script.now _ _ count sts c.if-script-gt-MOST_BYTES.false)), tt)

pub loop-i-preserved : goal.loop-i-preserved
loop-i-preserved g c =
    let step = c.in-Some.ensures.steps in
    told g.T.Teller.tells _ _ _ _ _ c.in-Some.st _ _ _ _ (TellsAll g.T.Teller.tells c.args.teller 1 (statements_from c.args.script.now 0))
    step.0 step.1 step.2 c.in_ok-tell.ensures c.loop-i.invariant

pub returns-clause-all : goal.returns-clause-all
returns-clause-all g c = λ h.
    told_all g.T.Teller.tells _ _ _ _ (TellsAll g.T.Teller.tells c.args.teller 1 (statements_from c.args.script.now 0)) c.in-None.ensures.steps.0.0 c.loop-i.invariant
