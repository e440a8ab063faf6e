use Rattle.std.proofs.Common.{◌≡◌, drop}
use Rattle.script.specs.Tokens.{symbol}
use Rattle.script.specs.Spellings.{rows}
use Rattle.script.proofs.spell.symbol.Given as goal

abbrev pub invariant-loop-bytes : goal.invariant-loop-bytes
invariant-loop-bytes l = symbol (rows (drop l.bytes-index l.table)) l.rest ≡ symbol (rows l.table) l.rest
