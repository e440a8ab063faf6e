use Rattle.std.proofs.Common.{◌∷◌, Some, None, sym, refl, ap, ◌∙◌, ap₂, arith}
use Rattle.term.specs.declared.node.Unary.TheVariants.{Fst}
use Rattle.term.specs.declared.node.Binary.TheVariants.{Pi}
use Rattle.term.specs.Term.{Term, unary, binary, bare, place}
use Rattle.term.specs.State.{term}
use Rattle.term.proofs.States.{still, on_to}
use Rattle.rules.specs.Rules.{above, premise, has, meets, expect, as_sort, parts, lowering, has_a_sort, arm, has_rule, meets_rule, meets_one, meets_two, meets_equal}
use Rattle.normal.specs.Views.{entries_at, context_at}
use Rattle.kernel.specs.Runs.{unruled}
use Rattle.kernel.proofs.Logic.{then, halt, last, then_lead, halt_lead, premised, form_again, form_stopped, form_filled, fill_stopped, enters, barred, pays, lacks, enters_lead, barred_lead, sort_or, concluded, stays_there, stored, after_adding, alike, unlike, some, again, inner, inner_part, inner_type, nested, nested_twice, outside, bound_of, put_as, has_ruled, meets_ruled, equal_rule, has_broke, meets_broke, has_unruled, no_rule_at, rule_at, nothing, at_side, side_met, when_true, when_false}
use Rattle.kernel.proofs.typing.Typing.+typing.Goals as goal

pub sort-returns-in_err-kind : goal.sort-returns-in_err-kind
sort-returns-in_err-kind g t c = halt_lead (λ T. expect (as_sort T)) c.from_residual.ensures.1 (premised c.in_err-kind.ensures)

pub sort-returns : goal.sort-returns
sort-returns g t c = then_lead (λ T. expect (as_sort T)) (premised c.in_ok-kind.ensures) (rw c.ok_or.ensures.value (sort_or c.as_sort.result c.as_sort.ensures c.refused.ensures))

pub split-returns-in_err-kind : goal.split-returns-in_err-kind
split-returns-in_err-kind g t c = halt_lead (λ T. expect (parts c.args.form T)) c.from_residual.ensures.1 (premised c.in_err-kind.ensures)

pub split-returns : goal.split-returns
split-returns g t c = then_lead (λ T. expect (parts c.args.form T)) (premised c.in_ok-kind.ensures) (c.expect.ensures.leads _ _)

pub arm-returns-in_err-inner : goal.arm-returns-in_err-inner
arm-returns-in_err-inner g t c = barred_lead _ c.from_residual.ensures.1 c.in_err-inner.ensures.site

pub arm-returns-in_err-found : goal.arm-returns-in_err-found
arm-returns-in_err-found g t c =
    let i = c.in_ok-inner.ensures in
    enters_lead i.site (halt_lead (lowering 1) c.from_residual-in_err-found.ensures.1 (inner_type c.args.id i.system refl (still _) c.requires.here c.requires.id i.site c.in_err-found.ensures))

pub arm-returns : goal.arm-returns
arm-returns g t c =
    let i = c.in_ok-inner.ensures in
    enters_lead i.site (then_lead (lowering 1) (inner_type c.args.id i.system refl (still _) c.requires.here c.requires.id i.site c.in_ok-found.ensures) (c.lowered.ensures _ _))

pub former-returns-in_err-domain : goal.former-returns-in_err-domain
former-returns-in_err-domain g t c =
    let s = c.in_ok-domain_sort.ensures in
    then s (halt c.from_residual-in_err-domain.ensures.1 (form_stopped c.args.a s.kept c.requires.here c.requires.a c.in_err-domain.ensures))

pub former-returns-in_err-inner : goal.former-returns-in_err-inner
former-returns-in_err-inner g t c =
    let s = c.in_ok-domain_sort.ensures in
    then s (then (form_again c.args.a s.kept c.requires.here c.requires.a c.in_ok-domain.ensures) (barred c.from_residual-in_err-inner.ensures.1 c.in_err-inner.ensures.site))

pub former-returns-in_err-body_sort : goal.former-returns-in_err-body_sort
former-returns-in_err-body_sort g t c =
    let s = c.in_ok-domain_sort.ensures in
    let v = c.in_ok-domain.ensures in
    let i = c.in_ok-inner.ensures in
    let m = on_to s.kept v.kept in
    then s (then (form_again c.args.a s.kept c.requires.here c.requires.a v) (enters i.site (halt c.from_residual-in_err-body_sort.ensures.1 (inner_part has_a_sort c.args.b i.system refl m c.requires.here c.requires.b i.site c.in_err-body_sort.ensures))))

pub former-returns : goal.former-returns
former-returns g t c =
    let s = c.in_ok-domain_sort.ensures in
    let v = c.in_ok-domain.ensures in
    let i = c.in_ok-inner.ensures in
    let m = on_to s.kept v.kept in
    then s (then (form_again c.args.a s.kept c.requires.here c.requires.a v) (enters i.site (then (inner_part has_a_sort c.args.b i.system refl m c.requires.here c.requires.b i.site c.in_ok-body_sort.ensures) (c.answered.ensures _ _ _ (sym c.join.ensures)))))

pub sum-returns-in_err-right : goal.sum-returns-in_err-right
sum-returns-in_err-right g t c =
    let s = c.in_ok-left.ensures in
    then s (halt c.from_residual-in_err-right.ensures.1 (again has_a_sort (s.kept.trees c.args.b c.requires.b) s.kept c.requires.here c.in_err-right.ensures))

pub sum-returns : goal.sum-returns
sum-returns g t c =
    let s = c.in_ok-left.ensures in
    then s (then (again has_a_sort (s.kept.trees c.args.b c.requires.b) s.kept c.requires.here c.in_ok-right.ensures) (c.answered.ensures _ _ _ (sym c.join.ensures)))

pub lambda-returns-in_err-domain : goal.lambda-returns-in_err-domain
lambda-returns-in_err-domain g t c =
    let s = c.in_ok-sort.ensures in
    then s (halt c.from_residual-in_err-domain.ensures.1 (form_stopped c.args.a s.kept c.requires.here c.requires.a c.in_err-domain.ensures))

pub lambda-returns-in_err-inner : goal.lambda-returns-in_err-inner
lambda-returns-in_err-inner g t c =
    let s = c.in_ok-sort.ensures in
    then s (then (form_again c.args.a s.kept c.requires.here c.requires.a c.in_ok-domain.ensures) (barred c.from_residual-in_err-inner.ensures.1 c.in_err-inner.ensures.site))

pub lambda-returns-in_err-codomain : goal.lambda-returns-in_err-codomain
lambda-returns-in_err-codomain g t c =
    let s = c.in_ok-sort.ensures in
    let v = c.in_ok-domain.ensures in
    let i = c.in_ok-inner.ensures in
    let m = on_to s.kept v.kept in
    then s (then (form_again c.args.a s.kept c.requires.here c.requires.a v) (enters i.site (halt c.from_residual-in_err-codomain.ensures.1 (inner_type c.args.b i.system refl m c.requires.here c.requires.b i.site c.in_err-codomain.ensures))))

pub lambda-returns : goal.lambda-returns
lambda-returns g t c =
    let s = c.in_ok-sort.ensures in
    let v = c.in_ok-domain.ensures in
    let i = c.in_ok-inner.ensures in
    let m = on_to s.kept v.kept in
    then s (then (form_again c.args.a s.kept c.requires.here c.requires.a v) (enters i.site (then (inner_type c.args.b i.system refl m c.requires.here c.requires.b i.site c.in_ok-codomain.ensures) (stored (ap (λ T. binary c.args.self.now.site.place Pi T (term c.infer.new.arena c.in_ok-codomain.codomain)) ((on_to i.site.kept c.in_ok-codomain.ensures.kept).trees c.in_ok-domain.domain v.within)) c.add.ensures))))

pub app-returns-in_err-check : goal.app-returns-in_err-check
app-returns-in_err-check g t c =
    let x = c.in_ok-domain.ensures in
    then x (halt c.from_residual-in_err-check.ensures.1 (again (λ Γ E. premise (meets Γ E (term c.split.new.arena c.in_ok-domain.domain))) (x.kept.trees c.args.b c.requires.b) x.kept c.requires.here (premised c.in_err-check.ensures)))

pub app-returns-in_err-filled : goal.app-returns-in_err-filled
app-returns-in_err-filled g t c =
    let x = c.in_ok-domain.ensures in
    let d = c.in_ok-check.ensures in
    let m = on_to x.kept d.kept in
    let q = put_as (m.trees c.args.b c.requires.b) (d.kept.trees c.in_ok-domain.codomain (omega (arith, x.within))) c.in_err-filled.ensures in
    then x (then (again (λ Γ E. premise (meets Γ E (term c.split.new.arena c.in_ok-domain.domain))) (x.kept.trees c.args.b c.requires.b) x.kept c.requires.here (premised d)) (lacks c.from_residual-in_err-filled.ensures.1 q))

pub app-returns-in_err-norm : goal.app-returns-in_err-norm
app-returns-in_err-norm g t c =
    let x = c.in_ok-domain.ensures in
    let d = c.in_ok-check.ensures in
    let m = on_to x.kept d.kept in
    let q = put_as (m.trees c.args.b c.requires.b) (d.kept.trees c.in_ok-domain.codomain (omega (arith, x.within))) c.in_ok-filled.ensures in
    then x (then (again (λ Γ E. premise (meets Γ E (term c.split.new.arena c.in_ok-domain.domain))) (x.kept.trees c.args.b c.requires.b) x.kept c.requires.here (premised d)) (pays q (halt c.from_residual-in_err-norm.ensures.1 (fill_stopped c.in_ok-filled.filled (on_to m q.kept) c.requires.here q.made.1 c.in_err-norm.ensures))))

pub app-returns : goal.app-returns
app-returns g t c =
    let x = c.in_ok-domain.ensures in
    let d = c.in_ok-check.ensures in
    let m = on_to x.kept d.kept in
    let q = put_as (m.trees c.args.b c.requires.b) (d.kept.trees c.in_ok-domain.codomain (omega (arith, x.within))) c.in_ok-filled.ensures in
    then x (then (again (λ Γ E. premise (meets Γ E (term c.split.new.arena c.in_ok-domain.domain))) (x.kept.trees c.args.b c.requires.b) x.kept c.requires.here (premised d)) (pays q (last (form_filled c.in_ok-filled.filled (on_to m q.kept) c.requires.here q.made.1 c.in_ok-norm.ensures))))

pub first-returns : goal.first-returns
first-returns g t c = then c.in_ok-first.ensures (concluded refl (omega (arith, c.in_ok-first.ensures.within)))

pub second-returns-in_err-filled : goal.second-returns-in_err-filled
second-returns-in_err-filled g t c =
    let x = c.in_ok-second.ensures in
    let a = c.add-first.ensures in
    let q = put_as (a.made ∙ ap (unary c.args.self.now.site.place Fst) (x.kept.trees c.args.a c.requires.a)) (a.kept.trees c.in_ok-second.second (omega (arith, x.within))) c.in_err-filled.ensures in
    then x (after_adding a (q.fair) (lacks c.from_residual-in_err-filled.ensures.1 q))

pub second-returns-in_err-norm : goal.second-returns-in_err-norm
second-returns-in_err-norm g t c =
    let x = c.in_ok-second.ensures in
    let a = c.add-first.ensures in
    let q = put_as (a.made ∙ ap (unary c.args.self.now.site.place Fst) (x.kept.trees c.args.a c.requires.a)) (a.kept.trees c.in_ok-second.second (omega (arith, x.within))) c.in_ok-filled.ensures in
    then x (after_adding a (omega (arith, q.fair, c.in_err-norm.ensures.fair)) (pays q (halt c.from_residual-in_err-norm.ensures.1 (fill_stopped c.in_ok-filled.filled (on_to (on_to x.kept a.kept) q.kept) c.requires.here q.made.1 c.in_err-norm.ensures))))

pub second-returns : goal.second-returns
second-returns g t c =
    let x = c.in_ok-second.ensures in
    let a = c.add-first.ensures in
    let q = put_as (a.made ∙ ap (unary c.args.self.now.site.place Fst) (x.kept.trees c.args.a c.requires.a)) (a.kept.trees c.in_ok-second.second (omega (arith, x.within))) c.in_ok-filled.ensures in
    then x (after_adding a (omega (arith, q.fair, c.in_ok-norm.ensures.fair)) (pays q (last (form_filled c.in_ok-filled.filled (on_to (on_to x.kept a.kept) q.kept) c.requires.here q.made.1 c.in_ok-norm.ensures))))

pub open-returns-in_err-outer : goal.open-returns-in_err-outer
open-returns-in_err-outer g t c = then c.in_ok-first.ensures (barred c.from_residual-in_err-outer.ensures.1 c.in_err-outer.ensures.site)

pub open-returns-in_err-inner : goal.open-returns-in_err-inner
open-returns-in_err-inner g t c = then c.in_ok-first.ensures (enters c.in_ok-outer.ensures.site (barred c.from_residual-in_err-inner.ensures.1 c.in_err-inner.ensures.site))

pub open-returns-in_err-found : goal.open-returns-in_err-found
open-returns-in_err-found g t c =
    let x = c.in_ok-first.ensures in
    let o = c.in_ok-outer.ensures in
    let i = c.in_ok-inner.ensures in
    let below = nested_twice i.system (nested o.system o.site) i.site in
    let m = on_to (on_to x.kept o.site.kept) i.site.kept in
    then x (enters o.site (enters i.site (halt c.from_residual-in_err-found.ensures.1 (inner (λ Γ E. premise (has Γ E)) below (ap₂ (λ B Γ. B ∷ Γ) (bound_of None (o.site.kept.trees c.in_ok-first.second (omega (arith, x.within)))) (outside refl x.kept c.requires.here)) (m.trees c.args.b c.requires.b) m c.requires.here (premised c.in_err-found.ensures)))))

pub open-returns : goal.open-returns
open-returns g t c =
    let x = c.in_ok-first.ensures in
    let o = c.in_ok-outer.ensures in
    let i = c.in_ok-inner.ensures in
    let below = nested_twice i.system (nested o.system o.site) i.site in
    let m = on_to (on_to x.kept o.site.kept) i.site.kept in
    then x (enters o.site (enters i.site (then (inner (λ Γ E. premise (has Γ E)) below (ap₂ (λ B Γ. B ∷ Γ) (bound_of None (o.site.kept.trees c.in_ok-first.second (omega (arith, x.within)))) (outside refl x.kept c.requires.here)) (m.trees c.args.b c.requires.b) m c.requires.here (premised c.in_ok-found.ensures)) (last (c.lowered.ensures _ _)))))

pub bind-returns-in_err-kind : goal.bind-returns-in_err-kind
bind-returns-in_err-kind g t c = halt c.from_residual.ensures.1 (premised c.in_err-kind.ensures)

pub bind-returns-in_err-value : goal.bind-returns-in_err-value
bind-returns-in_err-value g t c =
    let q = c.in_ok-kind.ensures in
    then (premised q) (halt c.from_residual-in_err-value.ensures.1 (form_stopped c.args.a q.kept c.requires.here c.requires.a c.in_err-value.ensures))

pub bind-returns-in_err-inner : goal.bind-returns-in_err-inner
bind-returns-in_err-inner g t c =
    let q = c.in_ok-kind.ensures in
    then (premised q) (then (form_again c.args.a q.kept c.requires.here c.requires.a c.in_ok-value.ensures) (barred c.from_residual-in_err-inner.ensures.1 c.in_err-inner.ensures.site))

pub bind-returns-in_err-found : goal.bind-returns-in_err-found
bind-returns-in_err-found g t c =
    let q = c.in_ok-kind.ensures in
    let v = c.in_ok-value.ensures in
    let i = c.in_ok-inner.ensures in
    let m = on_to q.kept v.kept in
    then (premised q) (then (form_again c.args.a q.kept c.requires.here c.requires.a v) (enters i.site (halt c.from_residual-in_err-found.ensures.1 (inner_type c.args.b i.system (bound_of (Some (term c.norm.new.arena c.in_ok-value.value)) (v.kept.trees c.in_ok-kind.kind q.within)) m c.requires.here c.requires.b i.site c.in_err-found.ensures))))

pub bind-returns : goal.bind-returns
bind-returns g t c =
    let q = c.in_ok-kind.ensures in
    let v = c.in_ok-value.ensures in
    let i = c.in_ok-inner.ensures in
    let m = on_to q.kept v.kept in
    then (premised q) (then (form_again c.args.a q.kept c.requires.here c.requires.a v) (enters i.site (then (inner_type c.args.b i.system (bound_of (Some (term c.norm.new.arena c.in_ok-value.value)) (v.kept.trees c.in_ok-kind.kind q.within)) m c.requires.here c.requires.b i.site c.in_ok-found.ensures) (last (c.lowered.ensures _ _)))))

pub ascribe-returns-in_err-check-in-Some : goal.ascribe-returns-in_err-check-in-Some
ascribe-returns-in_err-check-in-Some g t c = some _ _ (sym c.in-Some.ensures) (halt c.from_residual.ensures.1 (premised c.in_err-check-in-Some.ensures))

pub ascribe-returns-in_ok-check-in-Some : goal.ascribe-returns-in_ok-check-in-Some
ascribe-returns-in_ok-check-in-Some g t c =
    let d = c.in_ok-check-in-Some.ensures in
    some _ _ (sym c.in-Some.ensures) (then (premised d) (concluded (sym (d.kept.trees c.args.b c.requires.b)) (omega (arith, d.kept.long, c.requires.b))))

pub ascribed-returns-in_err-kind : goal.ascribed-returns-in_err-kind
ascribed-returns-in_err-kind g t c =
    let s = c.in_ok-sort.ensures in
    then s (halt c.from_residual-in_err-kind.ensures.1 (form_stopped c.args.b s.kept c.requires.here c.requires.b c.in_err-kind.ensures))

pub ascribed-returns-in_err-check : goal.ascribed-returns-in_err-check
ascribed-returns-in_err-check g t c =
    let s = c.in_ok-sort.ensures in
    let v = c.in_ok-kind.ensures in
    let m = on_to s.kept v.kept in
    then s (then (form_again c.args.b s.kept c.requires.here c.requires.b v) (halt c.from_residual-in_err-check.ensures.1 (again (λ Γ E. premise (meets Γ E (term c.norm.new.arena c.in_ok-kind.kind))) (m.trees c.args.a c.requires.a) m c.requires.here (premised c.in_err-check.ensures))))

pub ascribed-returns : goal.ascribed-returns
ascribed-returns g t c =
    let s = c.in_ok-sort.ensures in
    let v = c.in_ok-kind.ensures in
    let m = on_to s.kept v.kept in
    then s (then (form_again c.args.b s.kept c.requires.here c.requires.b v) (then (again (λ Γ E. premise (meets Γ E (term c.norm.new.arena c.in_ok-kind.kind))) (m.trees c.args.a c.requires.a) m c.requires.here (premised c.in_ok-check.ensures)) (concluded (sym (c.in_ok-check.ensures.kept.trees c.in_ok-kind.kind v.within)) (omega (arith, c.in_ok-check.ensures.kept.long, v.within)))))

pub choose-returns-in_err-first : goal.choose-returns-in_err-first
choose-returns-in_err-first g t c =
    let x = c.in_ok-left.ensures in
    then x (halt c.from_residual-in_err-first.ensures.1 (again (λ Γ E. arm Γ (term c.split.new.arena c.in_ok-left.left) E) (x.kept.trees c.args.f c.requires.f) x.kept c.requires.here c.in_err-first.ensures))

pub choose-returns-in_err-second : goal.choose-returns-in_err-second
choose-returns-in_err-second g t c =
    let x = c.in_ok-left.ensures in
    let l = c.in_ok-first.ensures in
    let m = on_to x.kept l.kept in
    then x (then (again (λ Γ E. arm Γ (term c.split.new.arena c.in_ok-left.left) E) (x.kept.trees c.args.f c.requires.f) x.kept c.requires.here l) (halt c.from_residual-in_err-second.ensures.1 (again {Y = Term × Term} (λ Γ E. arm Γ E.0 E.1) (ap₂ (λ P E. (P, E)) (l.kept.trees c.in_ok-left.right (omega (arith, x.within))) (m.trees c.args.g c.requires.g)) m c.requires.here c.in_err-second.ensures)))

pub choose-returns-then-equal : goal.choose-returns-then-equal
choose-returns-then-equal g t c =
    let x = c.in_ok-left.ensures in
    let l = c.in_ok-first.ensures in
    let r = c.in_ok-second.ensures in
    let m = on_to x.kept l.kept in
    let e = sym (r.kept.trees c.in_ok-first.first l.within) in
    then x (then (again (λ Γ E. arm Γ (term c.split.new.arena c.in_ok-left.left) E) (x.kept.trees c.args.f c.requires.f) x.kept c.requires.here l) (then (again {Y = Term × Term} (λ Γ E. arm Γ E.0 E.1) (ap₂ (λ P E. (P, E)) (l.kept.trees c.in_ok-left.right (omega (arith, x.within))) (m.trees c.args.g c.requires.g)) m c.requires.here r) (alike (ap bare e ∙ when_true _ _ c.if-equal.true c.equal.ensures) (concluded {x = c.arm-2.new.arena} e (omega (arith, r.kept.long, l.within))))))

pub choose-returns-else-equal : goal.choose-returns-else-equal
choose-returns-else-equal g t c =
    let x = c.in_ok-left.ensures in
    let l = c.in_ok-first.ensures in
    let r = c.in_ok-second.ensures in
    let m = on_to x.kept l.kept in
    let e = sym (r.kept.trees c.in_ok-first.first l.within) in
    then x (then (again (λ Γ E. arm Γ (term c.split.new.arena c.in_ok-left.left) E) (x.kept.trees c.args.f c.requires.f) x.kept c.requires.here l) (then (again {Y = Term × Term} (λ Γ E. arm Γ E.0 E.1) (ap₂ (λ P E. (P, E)) (l.kept.trees c.in_ok-left.right (omega (arith, x.within))) (m.trees c.args.g c.requires.g)) m c.requires.here r) (unlike (λ q. when_false _ _ c.if-equal.false c.equal.ensures (ap bare (sym e) ∙ q)) c.refused.ensures)))

pub equal-returns-in_err-kind : goal.equal-returns-in_err-kind
equal-returns-in_err-kind g t c = halt c.from_residual.ensures.1 (premised c.in_err-kind.ensures)

pub equal-returns-then-equal : goal.equal-returns-then-equal
equal-returns-then-equal g t c =
    let q = c.in_ok-kind.ensures in
    let e = q.kept.trees c.args.want c.requires.want in
    then (premised q) (alike (when_true _ _ c.if-equal.true c.equal.ensures ∙ ap bare e) (concluded {x = c.infer.new.arena} (sym e) (omega (arith, q.kept.long, c.requires.want))))

pub equal-returns-else-equal : goal.equal-returns-else-equal
equal-returns-else-equal g t c =
    let q = c.in_ok-kind.ensures in
    let e = q.kept.trees c.args.want c.requires.want in
    then (premised q) (unlike (λ n. when_false _ _ c.if-equal.false c.equal.ensures (n ∙ ap bare (sym e))) c.refused.ensures)

pub fun-returns-in_err-domain : goal.fun-returns-in_err-domain
fun-returns-in_err-domain g t c = halt c.from_residual.ensures.1 (c.in_err-domain.ensures.leads _ _)

pub fun-returns-in_err-inner : goal.fun-returns-in_err-inner
fun-returns-in_err-inner g t c = then (c.in_ok-domain.ensures.leads _ _) (barred c.from_residual-in_err-inner.ensures.1 c.in_err-inner.ensures.site)

pub fun-returns-in_err-check : goal.fun-returns-in_err-check
fun-returns-in_err-check g t c =
    let i = c.in_ok-inner.ensures in
    let below = nested i.system i.site in
    then (c.in_ok-domain.ensures.leads _ _) (enters i.site (halt c.from_residual-in_err-check.ensures.1 (inner {Y = Term × Term} (λ Γ E. premise (meets Γ E.0 E.1)) below refl (ap₂ (λ E T. (E, T)) (i.site.kept.trees c.args.a c.requires.a) (i.site.kept.trees c.in_ok-domain.codomain (omega (arith, c.in_ok-domain.ensures.is.1, c.requires.want)))) i.site.kept c.requires.here (premised c.in_err-check.ensures))))

pub fun-returns : goal.fun-returns
fun-returns g t c =
    let i = c.in_ok-inner.ensures in
    let below = nested i.system i.site in
    then (c.in_ok-domain.ensures.leads _ _) (enters i.site (then (inner {Y = Term × Term} (λ Γ E. premise (meets Γ E.0 E.1)) below refl (ap₂ (λ E T. (E, T)) (i.site.kept.trees c.args.a c.requires.a) (i.site.kept.trees c.in_ok-domain.codomain (omega (arith, c.in_ok-domain.ensures.is.1, c.requires.want)))) i.site.kept c.requires.here (premised c.in_ok-check.ensures)) (stays_there (on_to i.site.kept c.in_ok-check.ensures.kept) c.requires.want)))

pub pair-returns-in_err-first : goal.pair-returns-in_err-first
pair-returns-in_err-first g t c = halt c.from_residual.ensures.1 (c.in_err-first.ensures.leads _ _)

pub pair-returns-in_err-check : goal.pair-returns-in_err-check
pair-returns-in_err-check g t c = then (c.in_ok-first.ensures.leads _ _) (halt c.from_residual-in_err-check.ensures.1 (premised c.in_err-check.ensures))

pub pair-returns-in_err-filled : goal.pair-returns-in_err-filled
pair-returns-in_err-filled g t c =
    let d = c.in_ok-check.ensures in
    let q = put_as (d.kept.trees c.args.a c.requires.a) (d.kept.trees c.in_ok-first.second (omega (arith, c.in_ok-first.ensures.is.1, c.requires.want))) c.in_err-filled.ensures in
    then (c.in_ok-first.ensures.leads _ _) (then (premised d) (lacks c.from_residual-in_err-filled.ensures.1 q))

pub pair-returns-in_err-kind : goal.pair-returns-in_err-kind
pair-returns-in_err-kind g t c =
    let d = c.in_ok-check.ensures in
    let q = put_as (d.kept.trees c.args.a c.requires.a) (d.kept.trees c.in_ok-first.second (omega (arith, c.in_ok-first.ensures.is.1, c.requires.want))) c.in_ok-filled.ensures in
    then (c.in_ok-first.ensures.leads _ _) (then (premised d) (pays q (halt c.from_residual-in_err-kind.ensures.1 (fill_stopped c.in_ok-filled.filled (on_to d.kept q.kept) c.requires.here q.made.1 c.in_err-kind.ensures))))

pub pair-returns-in_err-check-2 : goal.pair-returns-in_err-check-2
pair-returns-in_err-check-2 g t c =
    let d = c.in_ok-check.ensures in
    let q = put_as (d.kept.trees c.args.a c.requires.a) (d.kept.trees c.in_ok-first.second (omega (arith, c.in_ok-first.ensures.is.1, c.requires.want))) c.in_ok-filled.ensures in
    let t = c.in_ok-kind.ensures in
    let m = on_to d.kept q.kept in
    let n = on_to m t.kept in
    then (c.in_ok-first.ensures.leads _ _) (then (premised d) (pays q (then (form_filled c.in_ok-filled.filled m c.requires.here q.made.1 t) (halt c.from_residual-in_err-check-2.ensures.1 (again (λ Γ E. premise (meets Γ E (term c.norm.new.arena c.in_ok-kind.kind))) (n.trees c.args.b c.requires.b) n c.requires.here (premised c.in_err-check-2.ensures))))))

pub pair-returns : goal.pair-returns
pair-returns g t c =
    let d = c.in_ok-check.ensures in
    let q = put_as (d.kept.trees c.args.a c.requires.a) (d.kept.trees c.in_ok-first.second (omega (arith, c.in_ok-first.ensures.is.1, c.requires.want))) c.in_ok-filled.ensures in
    let t = c.in_ok-kind.ensures in
    let m = on_to d.kept q.kept in
    let n = on_to m t.kept in
    then (c.in_ok-first.ensures.leads _ _) (then (premised d) (pays q (then (form_filled c.in_ok-filled.filled m c.requires.here q.made.1 t) (then (again (λ Γ E. premise (meets Γ E (term c.norm.new.arena c.in_ok-kind.kind))) (n.trees c.args.b c.requires.b) n c.requires.here (premised c.in_ok-check-2.ensures)) (stays_there (on_to n c.in_ok-check-2.ensures.kept) c.requires.want)))))

pub injection-returns-in_err-sides : goal.injection-returns-in_err-sides
injection-returns-in_err-sides g t c = at_side c.args.side (context_at c.args.self.now.site c.args.arena.now) (term c.args.arena.now c.args.a) (term c.args.arena.now c.args.want) (halt c.from_residual.ensures.1 (c.in_err-sides.ensures.leads _ _))

pub injection-returns-in_err-check : goal.injection-returns-in_err-check
injection-returns-in_err-check g t c = at_side c.args.side (context_at c.args.self.now.site c.args.arena.now) (term c.args.arena.now c.args.a) (term c.args.arena.now c.args.want) (then (c.in_ok-sides.ensures.leads _ _) (halt c.from_residual-in_err-check.ensures.1 (side_met c.args.side c.in_ok-sides.sides c.of.ensures (premised c.in_err-check.ensures))))

pub injection-returns : goal.injection-returns
injection-returns g t c = at_side c.args.side (context_at c.args.self.now.site c.args.arena.now) (term c.args.arena.now c.args.a) (term c.args.arena.now c.args.want) (then (c.in_ok-sides.ensures.leads _ _) (then (side_met c.args.side c.in_ok-sides.sides c.of.ensures (premised c.in_ok-check.ensures)) (stays_there c.in_ok-check.ensures.kept c.requires.want)))

pub infer-returns-in_err-spend : goal.infer-returns-in_err-spend
infer-returns-in_err-spend g t c =
    let q = rule_at (entries_at c.args.self.now.site c.args.arena.now) (context_at c.args.self.now.site c.args.arena.now) (term c.args.arena.now c.args.id) (sym c.unruled.ensures ∙ nothing c.unruled.result c.in_default.not-Some) in
    has_broke c.from_residual.ensures.1 q.1 c.in_err-spend.ensures

pub infer-returns-in-Some : goal.infer-returns-in-Some
infer-returns-in-Some g t c =
    let q = no_rule_at (entries_at c.args.self.now.site c.args.arena.now) (context_at c.args.self.now.site c.args.arena.now) (term c.args.arena.now c.args.id) (sym c.in-Some.ensures) in
    has_unruled q.0 q.1 c.refused.ensures

pub infer-returns-in-Sort : goal.infer-returns-in-Sort
infer-returns-in-Sort g t c = has_ruled c.args.id c.in_ok-spend.ensures c.requires.here c.requires.id (ap place c.in-Sort.ensures.is) (ap (has_rule (entries_at c.args.self.now.site c.spend.new.self) (context_at c.args.self.now.site c.spend.new.self)) c.in-Sort.ensures.is) (rw c.at-in-Sort.ensures at c.answered.ensures _ _ (above c.in-Sort.sort) (sym c.above.ensures))

pub infer-returns-in-Local : goal.infer-returns-in-Local
infer-returns-in-Local g t c = has_ruled c.args.id c.in_ok-spend.ensures c.requires.here c.requires.id (ap place c.in-Local.ensures.is) (ap (has_rule (entries_at c.args.self.now.site c.spend.new.self) (context_at c.args.self.now.site c.spend.new.self)) c.in-Local.ensures.is) (rw c.at-in-Local.ensures at c.local.ensures _)

pub infer-returns-in-Entry : goal.infer-returns-in-Entry
infer-returns-in-Entry g t c = has_ruled c.args.id c.in_ok-spend.ensures c.requires.here c.requires.id (ap place c.in-Entry.ensures.is) (ap (has_rule (entries_at c.args.self.now.site c.spend.new.self) (context_at c.args.self.now.site c.spend.new.self)) c.in-Entry.ensures.is) (rw c.at-in-Entry.ensures at c.entry.ensures _)

pub infer-returns-in-One : goal.infer-returns-in-One
infer-returns-in-One g t c =
    let R = entries_at c.args.self.now.site c.spend.new.self in
    let Γ = context_at c.args.self.now.site c.spend.new.self in
    let q = rule_at R Γ (term c.spend.new.self c.args.id) (ap unruled (c.in_ok-spend.ensures.kept.trees c.args.id c.requires.id) ∙ (sym c.unruled.ensures ∙ nothing c.unruled.result c.in_default.not-Some)) in
    has_ruled c.args.id c.in_ok-spend.ensures c.requires.here c.requires.id (ap place c.in-One.ensures.is) q.1 ((rw c.at-in-One.ensures at c.one.ensures) q.0 (sym (ap (has_rule R Γ) c.in-One.ensures.is) ∙ q.1))

pub infer-returns-in-Two : goal.infer-returns-in-Two
infer-returns-in-Two g t c =
    let R = entries_at c.args.self.now.site c.spend.new.self in
    let Γ = context_at c.args.self.now.site c.spend.new.self in
    let q = rule_at R Γ (term c.spend.new.self c.args.id) (ap unruled (c.in_ok-spend.ensures.kept.trees c.args.id c.requires.id) ∙ (sym c.unruled.ensures ∙ nothing c.unruled.result c.in_default.not-Some)) in
    has_ruled c.args.id c.in_ok-spend.ensures c.requires.here c.requires.id (ap place c.in-Two.ensures.is) q.1 ((rw c.at-in-Two.ensures at c.two.ensures) q.0 (sym (ap (has_rule R Γ) c.in-Two.ensures.is) ∙ q.1))

pub infer-returns-in-Match : goal.infer-returns-in-Match
infer-returns-in-Match g t c = has_ruled c.args.id c.in_ok-spend.ensures c.requires.here c.requires.id (ap place c.in-Match.ensures.is) (ap (has_rule (entries_at c.args.self.now.site c.spend.new.self) (context_at c.args.self.now.site c.spend.new.self)) c.in-Match.ensures.is) (rw c.at-in-Match.ensures at c.choose.ensures)

pub check-returns-in_err-spend : goal.check-returns-in_err-spend
check-returns-in_err-spend g t c = meets_broke c.from_residual.ensures.1 c.in_err-spend.ensures

pub check-returns-in-One : goal.check-returns-in-One
check-returns-in-One g t c = meets_ruled c.args.id c.args.want c.in_ok-spend.ensures c.requires.here c.requires.id c.requires.want (ap place c.in-One.ensures.is) (ap (λ E. meets_rule (context_at c.args.self.now.site c.spend.new.self) E (term c.spend.new.self c.args.want)) c.in-One.ensures.is ∙ ap (λ E. meets_one (context_at c.args.self.now.site c.spend.new.self) E c.in-One.form (term c.spend.new.self c.in-One.a) (term c.spend.new.self c.args.want)) (sym c.in-One.ensures.is)) (rw c.at-in-One.ensures at c.meet_one.ensures)

pub check-returns-in-Two : goal.check-returns-in-Two
check-returns-in-Two g t c = meets_ruled c.args.id c.args.want c.in_ok-spend.ensures c.requires.here c.requires.id c.requires.want (ap place c.in-Two.ensures.is) (ap (λ E. meets_rule (context_at c.args.self.now.site c.spend.new.self) E (term c.spend.new.self c.args.want)) c.in-Two.ensures.is ∙ ap (λ E. meets_two c.in-Two.place (context_at c.args.self.now.site c.spend.new.self) E c.in-Two.form (term c.spend.new.self c.in-Two.a) (term c.spend.new.self c.in-Two.b) (term c.spend.new.self c.args.want)) (sym c.in-Two.ensures.is)) (rw c.at-in-Two.ensures at c.meet_two.ensures)

pub check-returns-in-Sort : goal.check-returns-in-Sort
check-returns-in-Sort g t c =
    let Γ = context_at c.args.self.now.site c.spend.new.self in
    let T = term c.spend.new.self c.args.want in
    let q = equal_rule Γ T (term c.spend.new.self) c.in-Sort.is in
    let e = c.at.ensures.is in
    meets_ruled c.args.id c.args.want c.in_ok-spend.ensures c.requires.here c.requires.id c.requires.want (ap place e ∙ q.0) (ap (λ E. meets_rule Γ E T) e ∙ q.1 ∙ ap (λ E. meets_equal Γ E T) (sym e)) (rw c.at-in-Sort.ensures at c.equal.ensures)
