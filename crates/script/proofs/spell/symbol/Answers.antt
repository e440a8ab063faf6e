use Rattle.std.proofs.Common.{sym, ◌∙◌}
use Rattle.script.proofs.Fronts.{symbol_here, symbol_later}
use Rattle.script.proofs.spell.symbol.Goals as goal

pub returns-then-starts : goal.returns-then-starts
returns-then-starts c = sym (symbol_here _ _ _ _ c.loop-bytes-test.true (sym c.if-starts.true ∙ c.starts.ensures)) ∙ c.loop-bytes.invariant

pub loop-bytes-preserved : goal.loop-bytes-preserved
loop-bytes-preserved c = sym (symbol_later _ _ _ _ c.loop-bytes-test.true (sym c.if-starts.false ∙ c.starts.ensures)) ∙ c.loop-bytes.invariant
