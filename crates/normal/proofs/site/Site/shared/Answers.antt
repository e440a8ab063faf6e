use Rattle.std.proofs.Common.{ap, ◌∙◌, arith}
use Rattle.normal.specs.Views.{row_of, peak_of}
use Rattle.normal.proofs.Logic.{some, none, stuck, unfound, shares}
use Rattle.normal.proofs.site.Site.shared.Goals as goal

pub returns-in_err-row : goal.returns-in_err-row
returns-in_err-row c =
    let e = c.in_err-row.ensures in
    none _ (c.entry.ensures.is c.args.arena.now ∙ ap (row_of c.args.arena.now) e.ok_part) (stuck c.from_residual.ensures.1 (unfound e.ok_part e.value))

pub returns : goal.returns
returns c =
    let e = c.in_ok-row.ensures.ok_part in
    some _ _ (c.entry.ensures.is c.args.arena.now ∙ ap (row_of c.args.arena.now) e)
    (shares {x = c.args.arena.now} c.in_ok-row.row.value c.unwrap_or.ensures c.requires.id (omega (arith, ap peak_of e, c.entry.ensures.low, c.requires.here.rows)))
