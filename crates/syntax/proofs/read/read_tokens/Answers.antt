use Rattle.std.proofs.Common.{rules, ◌≡◌, [], vec_items, min, length, Ok, refl, ◌∙◌}
use Rattle.script.specs.Parts.{lexemes_from}
use Rattle.syntax.specs.Reads.{TokensRead}
use Rattle.syntax.specs.Scopes.{entry_names}
use Rattle.syntax.proofs.Logic.{kept_id}
use Rattle.syntax.proofs.Statements.{past_first, past_none, left_is, room, states_none, states_empty, read_well, read_ill, read_still}
use Rattle.syntax.specs.Scopes.{entry_names}
use Rattle.syntax.proofs.Logic.{handed_on}
use Rattle.syntax.proofs.read.read_tokens.Goals as goal

pub returns-in_default : goal.returns-in_default
returns-in_default c = record { read = (states_empty c.args.script.now (min c.args.at (length c.args.script.now)) (entry_names c.args.script.now c.args.entries.now) c.args.statement.end (past_none c.args.script.now _ (min c.args.at (length c.args.script.now)) _ _ c.from_place-reader.ensures.0 c.from_place-reader.ensures.1 c.in_default.ensures.taken), kept_id _, refl); shut = c.requires.shut }

pub returns-in_default-statement_kind : goal.returns-in_default-statement_kind
returns-in_default-statement_kind c = record { read = (states_none c.args.script.now (min c.args.at (length c.args.script.now)) c.in-Some.first (lexemes_from c.args.script.now c.next_lexeme.new.self.at) (past_first c.args.script.now _ (min c.args.at (length c.args.script.now)) _ _ c.in-Some.first c.from_place-reader.ensures.0 c.from_place-reader.ensures.1 c.in-Some.ensures.taken) (entry_names c.args.script.now c.args.entries.now) c.args.statement.end c.in_default-statement_kind.ensures, kept_id _, refl); shut = c.requires.shut }

pub invariant_of-parser : goal.invariant_of-parser
invariant_of-parser c = record { room = room c.args.script.now (min c.args.at (length c.args.script.now)) c.in-Some.first (lexemes_from c.args.script.now c.next_lexeme.new.self.at) (past_first c.args.script.now _ (min c.args.at (length c.args.script.now)) _ _ c.in-Some.first c.from_place-reader.ensures.0 c.from_place-reader.ensures.1 c.in-Some.ensures.taken) c.args.statement c.requires.next c.args.entries.now c.args.entries.now c.new.result c.new.result c.args.scope.now c.args.scope.now c.args.arena.now c.args.arena.now (c.new.ensures.text ∙ (c.next_lexeme.ensures.script ∙ c.from_place-reader.ensures.0)) (left_is c.args.script.now _ _ _ (c.next_lexeme.ensures.script ∙ c.from_place-reader.ensures.0) c.new.ensures.left) c.requires.room c.requires.few c.requires.shut }

pub returns-in_err-term-clause-read : goal.returns-in_err-term-clause-read
returns-in_err-term-clause-read c = read_still _ _ _ _ c.args.statement _ (handed_on (TokensRead c.args.script.now (min c.args.at (length c.args.script.now)) (entry_names c.args.script.now c.args.entries.now) c.args.arena.now c.body.new.self.arena.now c.args.statement) _ c.from_residual.ensures.1 (read_ill c.args.script.now (min c.args.at (length c.args.script.now)) c.in-Some.first (lexemes_from c.args.script.now c.next_lexeme.new.self.at) (past_first c.args.script.now _ (min c.args.at (length c.args.script.now)) _ _ c.in-Some.first c.from_place-reader.ensures.0 c.from_place-reader.ensures.1 c.in-Some.ensures.taken) c.args.statement c.requires.next c.args.entries.now c.body.new.self.entries.now c.new.result c.body.new.self.words c.args.scope.now c.body.new.self.scope.now c.args.arena.now c.body.new.self.arena.now (c.new.ensures.text ∙ (c.next_lexeme.ensures.script ∙ c.from_place-reader.ensures.0)) (left_is c.args.script.now _ _ _ (c.next_lexeme.ensures.script ∙ c.from_place-reader.ensures.0) c.new.ensures.left) c.in-Some-statement_kind.kind _ c.in-Some-statement_kind.ensures c.new.ensures.end c.in_err-term.ensures.parsed.found)) (search rules)

pub returns-in_err-term-clause-shut : goal.returns-in_err-term-clause-shut
returns-in_err-term-clause-shut c = let shut : vec_items c.body.new.self.scope.now.names ≡ [] = c.in_err-term.ensures.parsed.found.moves.names ∙ c.requires.shut in search (rules, shut)

pub returns-clause-read : goal.returns-clause-read
returns-clause-read c = read_still _ _ _ _ c.args.statement (Ok _) (read_well c.args.script.now (min c.args.at (length c.args.script.now)) c.in-Some.first (lexemes_from c.args.script.now c.next_lexeme.new.self.at) (past_first c.args.script.now _ (min c.args.at (length c.args.script.now)) _ _ c.in-Some.first c.from_place-reader.ensures.0 c.from_place-reader.ensures.1 c.in-Some.ensures.taken) c.args.statement c.requires.next c.args.entries.now c.body.new.self.entries.now c.new.result c.body.new.self.words c.args.scope.now c.body.new.self.scope.now c.args.arena.now c.body.new.self.arena.now (c.new.ensures.text ∙ (c.next_lexeme.ensures.script ∙ c.from_place-reader.ensures.0)) (left_is c.args.script.now _ _ _ (c.next_lexeme.ensures.script ∙ c.from_place-reader.ensures.0) c.new.ensures.left) c.requires.tokens c.requires.room c.in-Some-statement_kind.kind c.in_ok-term.term c.in-Some-statement_kind.ensures c.new.ensures.end c.in_ok-term.ensures.parsed.found c.in_ok-term.ensures.over) (search rules)

pub returns-clause-shut : goal.returns-clause-shut
returns-clause-shut c = let shut : vec_items c.body.new.self.scope.now.names ≡ [] = c.in_ok-term.ensures.parsed.found.moves.names ∙ c.requires.shut in search (rules, shut)
