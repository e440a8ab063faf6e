use Rattle.std.proofs.Common.{[], Some, refl, ap, ◌∙◌, ap₂, arith}
use Rattle.term.specs.Term.{closed}
use Rattle.term.specs.State.{term}
use Rattle.rules.specs.Rules.{premise, gives}
use Rattle.rules.specs.Statement.{settles}
use Rattle.normal.proofs.Views.{rows_kept}
use Rattle.normal.proofs.Logic as normal
use Rattle.kernel.proofs.Logic.{like, premised, formed, unformed}
use Rattle.kernel.proofs.Statements.{then_all, halt_all, as_before, with_form, at_spot, has_none, sort_none, gives_none, type_closed, form_closed}
use Rattle.kernel.proofs.judge.Claim.by_kind.Goals as goal

pub returns-in_err-kind-in-Def : goal.returns-in_err-kind-in-Def
returns-in_err-kind-in-Def g c = with_form (term c.args.arena.now c.args.self.now.id) c.in-Def.is (halt_all c.from_residual.ensures.1 (premised (has_none c.args.arena.now c.in_err-kind-in-Def.ensures)))

pub returns-in_err-form-in-Def : goal.returns-in_err-form-in-Def
returns-in_err-form-in-Def g c =
    let t = has_none c.args.arena.now c.in_ok-kind-in-Def.ensures in
    with_form (term c.args.arena.now c.args.self.now.id) c.in-Def.is (then_all c.requires.mark (premised t) (halt_all c.from_residual-in_err-form-in-Def.ensures.1 (like (rows_kept c.args.self.now.entries.now t.kept (omega (arith, c.requires.entries, c.requires.mark))) (ap₂ (λ q E. premise (gives q [] E)) c.place.ensures (t.kept.trees c.args.self.now.id c.requires.id)) (unformed (gives_none c.infer.new.arena c.in_err-form-in-Def.ensures)))))

pub settle-requires-clause-closed : goal.settle-requires-clause-closed
settle-requires-clause-closed g c =
    let t = has_none c.args.arena.now c.in_ok-kind-in-Def.ensures in
    ap (closed 0) (c.in_ok-form-in-Def.ensures.kept.trees c.in_ok-kind-in-Def.kind t.within) ∙ type_closed c.requires.sealed c.requires.closed t

pub settle-requires-clause-shut : goal.settle-requires-clause-shut
settle-requires-clause-shut g c =
    let t = has_none c.args.arena.now c.in_ok-kind-in-Def.ensures in
    form_closed (g.S.SortSystem.answers c.args.self.now.system.now) c.requires.sealed c.requires.closed (normal.like (rows_kept c.args.self.now.entries.now t.kept (omega (arith, c.requires.entries, c.requires.mark))) refl refl (t.kept.trees c.args.self.now.id c.requires.id) (gives_none c.infer.new.arena c.in_ok-form-in-Def.ensures))

pub returns-in_ok-form-in-Def : goal.returns-in_ok-form-in-Def
returns-in_ok-form-in-Def g c =
    let t = has_none c.args.arena.now c.in_ok-kind-in-Def.ensures in
    let v = c.in_ok-form-in-Def.ensures in
    with_form (term c.args.arena.now c.args.self.now.id) c.in-Def.is
    (then_all c.requires.mark (premised t)
    (then_all (omega (arith, c.requires.mark, t.kept.long)) (like (rows_kept c.args.self.now.entries.now t.kept (omega (arith, c.requires.entries, c.requires.mark))) (ap₂ (λ q E. premise (gives q [] E)) c.place.ensures (t.kept.trees c.args.self.now.id c.requires.id)) (formed (gives_none c.infer.new.arena v)))
    (as_before refl (ap (λ T. settles T (Some (term c.norm.new.arena c.in_ok-form-in-Def.form))) (v.kept.trees c.in_ok-kind-in-Def.kind t.within)) (c.settle.ensures _ _ _))))

pub returns-in_err-sort-in-Axiom : goal.returns-in_err-sort-in-Axiom
returns-in_err-sort-in-Axiom g c = rw c.in-Axiom.is (halt_all c.from_residual-in_err-sort-in-Axiom.ensures.1 (at_spot c.place.ensures (sort_none c.args.arena.now c.in_err-sort-in-Axiom.ensures)))

pub returns-in_err-form-in-Axiom : goal.returns-in_err-form-in-Axiom
returns-in_err-form-in-Axiom g c =
    let t = sort_none c.args.arena.now c.in_ok-sort-in-Axiom.ensures in
    rw c.in-Axiom.is (then_all c.requires.mark (at_spot c.place.ensures t) (halt_all c.from_residual-in_err-form-in-Axiom.ensures.1 (like (rows_kept c.args.self.now.entries.now t.kept (omega (arith, c.requires.entries, c.requires.mark))) (ap₂ (λ q E. premise (gives q [] E)) c.place.ensures (t.kept.trees c.args.self.now.id c.requires.id)) (unformed (gives_none c.sort.new.arena c.in_err-form-in-Axiom.ensures)))))

pub settle-requires-in-Axiom-clause-closed : goal.settle-requires-in-Axiom-clause-closed
settle-requires-in-Axiom-clause-closed g c =
    let t = sort_none c.args.arena.now c.in_ok-sort-in-Axiom.ensures in
    form_closed (g.S.SortSystem.answers c.args.self.now.system.now) c.requires.sealed c.requires.closed (normal.like (rows_kept c.args.self.now.entries.now t.kept (omega (arith, c.requires.entries, c.requires.mark))) refl refl (t.kept.trees c.args.self.now.id c.requires.id) (gives_none c.sort.new.arena c.in_ok-form-in-Axiom.ensures))

pub returns-in_ok-form-in-Axiom : goal.returns-in_ok-form-in-Axiom
returns-in_ok-form-in-Axiom g c =
    let t = sort_none c.args.arena.now c.in_ok-sort-in-Axiom.ensures in
    rw c.in-Axiom.is
    (then_all c.requires.mark (at_spot c.place.ensures t)
    (then_all (omega (arith, c.requires.mark, t.kept.long)) (like (rows_kept c.args.self.now.entries.now t.kept (omega (arith, c.requires.entries, c.requires.mark))) (ap₂ (λ q E. premise (gives q [] E)) c.place.ensures (t.kept.trees c.args.self.now.id c.requires.id)) (formed (gives_none c.sort.new.arena c.in_ok-form-in-Axiom.ensures))) (c.settle-in-Axiom.ensures _ _ _)))

pub returns-in_err-kind-in-Check : goal.returns-in_err-kind-in-Check
returns-in_err-kind-in-Check g c = rw c.in-Check.is (halt_all c.from_residual-in_err-kind-in-Check.ensures.1 (premised (has_none c.args.arena.now c.in_err-kind-in-Check.ensures)))

pub settle-requires-in-Check-clause-closed : goal.settle-requires-in-Check-clause-closed
settle-requires-in-Check-clause-closed g c = type_closed c.requires.sealed c.requires.closed (has_none c.args.arena.now c.in_ok-kind-in-Check.ensures)

pub returns-in_ok-kind-in-Check : goal.returns-in_ok-kind-in-Check
returns-in_ok-kind-in-Check g c = rw c.in-Check.is (then_all c.requires.mark (premised (has_none c.args.arena.now c.in_ok-kind-in-Check.ensures)) (c.settle-in-Check.ensures _ _ _))
