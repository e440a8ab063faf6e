use Rattle.std.proofs.Common.{refl, ap, ◌∙◌}
use Rattle.term.specs.Cells.{bound}
use Rattle.term.specs.State.{term, seen_value}
use Rattle.normal.proofs.Logic.{some, none, stuck, unfound, concluded, built, lacks}
use Rattle.normal.proofs.site.Site.local.Goals as goal

pub returns-in_err-binder : goal.returns-in_err-binder
returns-in_err-binder c =
    let e = c.in_err-binder.ensures in
    none _ (c.binder.ensures.value ∙ ap (seen_value c.args.arena.now) e.ok_part) (stuck c.from_residual.ensures.1 (unfound e.ok_part e.value))

pub returns-in-None : goal.returns-in-None
returns-in-None c =
    some _ _ (c.binder.ensures.value ∙ ap (seen_value c.args.arena.now) c.in_ok-binder.ensures.ok_part)
    (none _ (ap (λ v. bound v (term c.args.arena.now)) c.in-None.is) (concluded refl c.requires.id))

pub returns-in_err-lift-in-Some : goal.returns-in_err-lift-in-Some
returns-in_err-lift-in-Some c =
    some _ _ (c.binder.ensures.value ∙ ap (seen_value c.args.arena.now) c.in_ok-binder.ensures.ok_part)
    (some _ _ (ap (λ v. bound v (term c.args.arena.now)) c.in-Some.is) (lacks c.from_residual-in_err-lift-in-Some.ensures.1 c.in_err-lift-in-Some.ensures))

pub returns-in_ok-lift-in-Some : goal.returns-in_ok-lift-in-Some
returns-in_ok-lift-in-Some c =
    some _ _ (c.binder.ensures.value ∙ ap (seen_value c.args.arena.now) c.in_ok-binder.ensures.ok_part)
    (some _ _ (ap (λ v. bound v (term c.args.arena.now)) c.in-Some.is) (built c.in_ok-lift-in-Some.ensures))
