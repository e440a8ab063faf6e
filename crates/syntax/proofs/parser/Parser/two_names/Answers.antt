use Rattle.std.proofs.Common.{arith}
use Rattle.syntax.specs.Parses.{now, two_names, TwoNames}
use Rattle.syntax.proofs.Logic.{start, expected, unexpected, bound, unbound, less, handed_on}
use Rattle.syntax.proofs.parser.Parser.two_names.Goals as goal

pub returns-in_err-x-clause-parsed : goal.returns-in_err-x-clause-parsed
returns-in_err-x-clause-parsed c = handed_on (TwoNames (now c.args.self.now) _) _ c.from_residual.ensures.1 (record { found = λ h. unbound (start (now c.args.self.now) (two_names h)) c.in_err-x.ensures })

pub returns-in_err-expect-clause-parsed : goal.returns-in_err-expect-clause-parsed
returns-in_err-expect-clause-parsed c = handed_on (TwoNames (now c.args.self.now) _) _ c.from_residual-in_err-expect.ensures.1 (record { found = λ h. unexpected (bound (start (now c.args.self.now) (two_names h)) c.in_ok-x.ensures) c.in_err-expect.ensures })

pub returns-in_err-y-clause-parsed : goal.returns-in_err-y-clause-parsed
returns-in_err-y-clause-parsed c = handed_on (TwoNames (now c.args.self.now) _) _ c.from_residual-in_err-y.ensures.1 (record { found = λ h. unbound (expected (bound (start (now c.args.self.now) (two_names h)) c.in_ok-x.ensures) c.in_ok-expect.ensures) c.in_err-y.ensures })

pub returns-in_err-expect-2-clause-parsed : goal.returns-in_err-expect-2-clause-parsed
returns-in_err-expect-2-clause-parsed c = handed_on (TwoNames (now c.args.self.now) _) _ c.from_residual-in_err-expect-2.ensures.1 (record { found = λ h. unexpected (bound (expected (bound (start (now c.args.self.now) (two_names h)) c.in_ok-x.ensures) c.in_ok-expect.ensures) c.in_ok-y.ensures) c.in_err-expect-2.ensures })

pub returns-clause-parsed : goal.returns-clause-parsed
returns-clause-parsed c = record { found = λ h. less (omega arith) (expected (bound (expected (bound (start (now c.args.self.now) (two_names h)) c.in_ok-x.ensures) c.in_ok-expect.ensures) c.in_ok-y.ensures) c.in_ok-expect-2.ensures) }
