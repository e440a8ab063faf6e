use Rattle.std.proofs.Common.{refl, arith}
use Rattle.syntax.specs.Parses.{now, no_names}
use Rattle.syntax.proofs.Ends.{finished, overran, nil_is}
use Rattle.syntax.proofs.Logic.{start, then_part, halt_part, gave, passed_on}
use Rattle.syntax.proofs.parser.Parser.whole.Goals as goal

pub returns-in_err-e-clause-parsed : goal.returns-in_err-e-clause-parsed
returns-in_err-e-clause-parsed c = passed_on _ c.from_residual.ensures.1 (halt_part no_names (start (now c.args.self.now) _) c.in_err-e.ensures.parsed.found)

pub returns-in_err-finish-clause-parsed : goal.returns-in_err-finish-clause-parsed
returns-in_err-finish-clause-parsed c = passed_on _ c.from_residual-in_err-finish.ensures.1 (overran (then_part no_names (start (now c.args.self.now) _) c.in_ok-e.ensures.parsed.found) c.in_err-finish.ensures)

pub returns-clause-parsed : goal.returns-clause-parsed
returns-clause-parsed c = record { found = gave (finished (then_part no_names (start (now c.args.self.now) _) c.in_ok-e.ensures.parsed.found) c.in_ok-finish.ensures) refl c.in_ok-e.ensures.parsed.found.within (omega arith) }

pub returns-clause-over : goal.returns-clause-over
returns-clause-over c = nil_is _ c.in_ok-finish.ensures.found
