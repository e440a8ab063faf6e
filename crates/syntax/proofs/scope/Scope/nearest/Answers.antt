use Rattle.std.proofs.Common.{vec_items, ap, ◌∙◌, arith}
use Rattle.script.specs.Names.{nearest, named}
use Rattle.syntax.proofs.Scopes.{found_none, found_some, found_below}
use Rattle.syntax.proofs.scope.Scope.nearest.Goals as goal

pub overflow_sub-result : goal.overflow_sub-result
overflow_sub-result c =
    omega (arith, found_below (λ y. named c.args.script.now c.args.name.now y.at y.len) (vec_items c.args.self.now.names) c.in_ok-i.i (c.in_ok-i.ensures ∙ ap (nearest _) c.as_slice.ensures.value), c.len.ensures, c.args.self.now.names.ok.0)

pub overflow_sub-result-2 : goal.overflow_sub-result-2
overflow_sub-result-2 c =
    omega (arith, found_below (λ y. named c.args.script.now c.args.name.now y.at y.len) (vec_items c.args.self.now.names) c.in_ok-i.i (c.in_ok-i.ensures ∙ ap (nearest _) c.as_slice.ensures.value), c.len.ensures, c.args.self.now.names.ok.0)

pub returns-in_err-i-clause-value : goal.returns-in_err-i-clause-value
returns-in_err-i-clause-value c =
    c.from_residual.ensures ∙ found_none c.args.script.now c.args.name.now (vec_items c.args.self.now.names) (c.in_err-i.ensures ∙ ap (nearest _) c.as_slice.ensures.value)

pub returns-clause-value : goal.returns-clause-value
returns-clause-value c =
    found_some c.args.script.now c.args.name.now (vec_items c.args.self.now.names) c.len.result c.in_ok-i.i (c.len.ensures ∙ c.args.self.now.names.ok.0) (c.in_ok-i.ensures ∙ ap (nearest _) c.as_slice.ensures.value)
