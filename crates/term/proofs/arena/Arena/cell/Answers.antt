use Rattle.std.proofs.Common.{ap, ◌∙◌}
use Rattle.std.specs.Prelude.{unwrap_or}
use Rattle.term.specs.Cells.{blank}
use Rattle.term.proofs.States.{read_or}
use Rattle.term.proofs.arena.Arena.cell.Goals as goal

pub returns : goal.returns
returns c =
    read_or c.args.self.now c.args.id _ c.get.result c.unwrap_or.result c.deref.ensures.value c.get.ensures.lookup
    (c.unwrap_or.ensures ∙ ap (λ o. unwrap_or o blank) c.copied.ensures)
