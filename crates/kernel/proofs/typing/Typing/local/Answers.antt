use Rattle.std.proofs.Common.{sym, ap, ◌∙◌}
use Rattle.term.specs.State.{seen}
use Rattle.kernel.proofs.Logic.{some, none, refused_out, typed_as, pays, lacks, concluded}
use Rattle.kernel.proofs.typing.Typing.local.Goals as goal

pub returns-in_err-binder : goal.returns-in_err-binder
returns-in_err-binder g c X =
    let n = c.in_err-binder.ensures in
    none _ (c.binder.ensures.is ∙ ap (seen c.args.arena.now) n.ok_part) (refused_out c.from_residual.ensures.1 n.ok_part n.value c.refused.ensures)

pub returns-in_err-lift-in-Some : goal.returns-in_err-lift-in-Some
returns-in_err-lift-in-Some g c X =
    some _ _ (c.binder.ensures.is ∙ ap (seen c.args.arena.now) c.in_ok-binder.ensures.ok_part)
    (typed_as _ c.args.arena.now c.in-Some.is (lacks c.from_residual-in_err-lift-in-Some.ensures.1 c.in_err-lift-in-Some.ensures))

pub returns-in_ok-lift-in-Some : goal.returns-in_ok-lift-in-Some
returns-in_ok-lift-in-Some g c X =
    let b = c.in_ok-lift-in-Some.ensures in
    some _ _ (c.binder.ensures.is ∙ ap (seen c.args.arena.now) c.in_ok-binder.ensures.ok_part)
    (typed_as _ c.args.arena.now c.in-Some.is (pays b (concluded (sym b.made.1) b.made.0)))

pub returns-in_err-make-in-None : goal.returns-in_err-make-in-None
returns-in_err-make-in-None g c X =
    some _ _ (c.binder.ensures.is ∙ ap (seen c.args.arena.now) c.in_ok-binder.ensures.ok_part)
    (typed_as _ c.args.arena.now c.in-None.is (lacks c.from_residual-in_err-make-in-None.ensures.1 c.in_err-make-in-None.ensures))

pub returns-in_ok-make-in-None : goal.returns-in_ok-make-in-None
returns-in_ok-make-in-None g c X =
    let b = c.in_ok-make-in-None.ensures in
    some _ _ (c.binder.ensures.is ∙ ap (seen c.args.arena.now) c.in_ok-binder.ensures.ok_part)
    (typed_as _ c.args.arena.now c.in-None.is (pays b (concluded (sym b.made.1) b.made.0)))
