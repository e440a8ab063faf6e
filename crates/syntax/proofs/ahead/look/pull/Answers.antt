use Rattle.std.proofs.Common.{sym, ap, ◌∙◌}
use Rattle.script.specs.Parts.{lexemes_from}
use Rattle.script.specs.View.{script}
use Rattle.script.specs.Walk.{until}
use Rattle.syntax.specs.Look.{coming}
use Rattle.script.proofs.Runs.{until_first, until_more}
use Rattle.syntax.proofs.ahead.look.pull.Goals as goal

pub returns-in_err-lexeme-clause-next : goal.returns-in_err-lexeme-clause-next
unfolding until
returns-in_err-lexeme-clause-next c = ap (λ o. coming o (until (lexemes_from (script c.args.reader.now) c.next_lexeme.new.self.at))) c.from_residual.ensures ∙ sym (ap until c.in_err-lexeme.ensures.taken.0)

pub returns-then-begins_statement-clause-next : goal.returns-then-begins_statement-clause-next
returns-then-begins_statement-clause-next c = sym (ap until c.in_ok-lexeme.ensures.taken.0 ∙ until_first c.in_ok-lexeme.lexeme _ (sym c.if-begins_statement.ensures))

pub returns-else-begins_statement-clause-next : goal.returns-else-begins_statement-clause-next
returns-else-begins_statement-clause-next c = sym (ap until c.in_ok-lexeme.ensures.taken.0 ∙ until_more c.in_ok-lexeme.lexeme _ (sym c.if-begins_statement.ensures))
