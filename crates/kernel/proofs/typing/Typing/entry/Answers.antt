use Rattle.std.proofs.Common.{refl, ap, ◌∙◌, arith}
use Rattle.normal.specs.Views.{row_of, peak_of}
use Rattle.kernel.proofs.Logic.{some, none, refused_out, concluded}
use Rattle.kernel.proofs.typing.Typing.entry.Goals as goal

pub returns-in_err-row : goal.returns-in_err-row
returns-in_err-row g c X =
    let n = c.in_err-row.ensures in
    none _ (c.entry.ensures.is c.args.arena.now ∙ ap (row_of c.args.arena.now) n.ok_part) (refused_out c.from_residual.ensures.1 n.ok_part n.value c.refused.ensures)

pub returns : goal.returns
returns g c X =
    let e = c.in_ok-row.ensures.ok_part in
    some _ _ (c.entry.ensures.is c.args.arena.now ∙ ap (row_of c.args.arena.now) e) (concluded refl (omega (arith, ap peak_of e, c.entry.ensures.low, c.requires.rows)))
