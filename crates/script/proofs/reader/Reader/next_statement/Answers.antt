use Rattle.std.proofs.Common.{ap, ◌∙◌}
use Rattle.script.specs.Walk.{one_more}
use Rattle.script.proofs.Counts.{stated_by, none_stated}
use Rattle.script.proofs.reader.Reader.next_statement.Goals as goal

pub returns-in_err-first : goal.returns-in_err-first
returns-in_err-first c = rw c.from_residual.ensures (none_stated c.in_err-first.ensures)

pub returns : goal.returns
returns c =
    stated_by c.in_ok-first.ensures c.seek-second.ensures c.count_rest-tally.ensures c.statement_kind-kind.ensures c.entered_name-name.ensures
    (c.with.ensures ∙ ap (λ t. one_more t c.in_ok-first.first) c.new.ensures)
