use Rattle.std.proofs.Common.{ap, ◌∙◌}
use Rattle.std.specs.Prelude.{not}
use Rattle.term.specs.State.{term}
use Rattle.normal.specs.Views.{rows}
use Rattle.rules.proofs.Together.{laws}
use Rattle.kernel.proofs.Statements.{judged_ok, judged_err, exact}
use Rattle.kernel.proofs.judge.Claim.judge.Goals as goal

pub returns-then-is_err : goal.returns-then-is_err
returns-then-is_err g c =
    let a = c.args.arena.now in
    let s = c.args.self.now in
    let E = term a s.id in
    let d = judged_err s.kind E c.by_kind-result.result (c.is_err.ensures.negation ∙ ap not c.if-is_err.true) c.requires.mark c.by_kind-result.ensures c.rewind.ensures in
    record { judged = d; exact = exact _ (rows a s.entries.now) s.kind E a _ s.mark c.by_kind-result.result d; laws = laws }

pub returns-else-is_err : goal.returns-else-is_err
returns-else-is_err g c =
    let a = c.args.arena.now in
    let s = c.args.self.now in
    let E = term a s.id in
    let d = judged_ok s.kind E c.by_kind-result.result (c.is_err.ensures.negation ∙ ap not c.if-is_err.false) c.by_kind-result.ensures in
    record { judged = d; exact = exact _ (rows a s.entries.now) s.kind E a _ s.mark c.by_kind-result.result d; laws = laws }
