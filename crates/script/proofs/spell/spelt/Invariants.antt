use Rattle.std.proofs.Common.{◌≡◌, drop}
use Rattle.script.specs.Tokens.{spelt}
use Rattle.script.specs.Spellings.{rows}
use Rattle.script.proofs.spell.spelt.Given as goal

abbrev pub invariant-loop-bytes : goal.invariant-loop-bytes
invariant-loop-bytes l = spelt (rows (drop l.bytes-index l.table)) l.w ≡ spelt (rows l.table) l.w
