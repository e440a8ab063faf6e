use Rattle.std.proofs.Common.{get_or, sym, ap, ◌∙◌, ap₂, arith}
use Rattle.syntax.specs.Parses.{now}
use Rattle.std.specs.Char.{is_ascii_alphabetic}
use Rattle.grammar.specs.Grammar.{find_entry, here}
use Rattle.grammar.specs.Statements.{new_name}
use Rattle.syntax.specs.Look.{span_bytes}
use Rattle.syntax.specs.Scopes.{entry_names}
use Rattle.syntax.specs.Parses.{now, end, entries, words_left}
use Rattle.syntax.specs.Reads.{NewName}
use Rattle.syntax.proofs.Ends.{letterless, known_already, new_one}
use Rattle.syntax.proofs.Logic.{start, bound, unbound, less, handed_on}
use Rattle.syntax.proofs.parser.Parser.new_name.Goals as goal

pub returns-in_err-x-clause-parsed : goal.returns-in_err-x-clause-parsed
returns-in_err-x-clause-parsed c = handed_on (NewName (now c.args.self.now) _) _ c.from_residual.ensures.1 (record { found = λ q. unbound (start (now c.args.self.now) (new_name (entries (now c.args.self.now)) (here (end (now c.args.self.now)) (words_left (now c.args.self.now))) q)) c.in_err-x.ensures })

pub returns-then-not-begins_with_letter-clause-parsed : goal.returns-then-not-begins_with_letter-clause-parsed
returns-then-not-begins_with_letter-clause-parsed c = record { found = λ q. letterless c.in_ok-x.x _ q c.here-place.result c.here-place.ensures (bound (start (now c.args.self.now) (new_name (entries (now c.args.self.now)) (here (end (now c.args.self.now)) (words_left (now c.args.self.now))) q)) c.in_ok-x.ensures) (sym (c.if-not-begins_with_letter.ensures ∙ ap (λ b. is_ascii_alphabetic (get_or b 0 0)) (c.bytes-name.ensures ∙ ap (λ s. span_bytes s c.in_ok-x.x) (c.script-script.ensures ∙ c.in_ok-x.ensures.fits.same)))) }

pub returns-in-Some-clause-parsed : goal.returns-in-Some-clause-parsed
returns-in-Some-clause-parsed c = record { found = λ q. known_already c.in_ok-x.x _ q c.here-place.result _ c.here-place.ensures (bound (start (now c.args.self.now) (new_name (entries (now c.args.self.now)) (here (end (now c.args.self.now)) (words_left (now c.args.self.now))) q)) c.in_ok-x.ensures) (sym (c.if-not-begins_with_letter.ensures ∙ ap (λ b. is_ascii_alphabetic (get_or b 0 0)) (c.bytes-name.ensures ∙ ap (λ s. span_bytes s c.in_ok-x.x) (c.script-script.ensures ∙ c.in_ok-x.ensures.fits.same)))) (sym (c.in-Some.ensures ∙ ap₂ (λ b s. find_entry b (entry_names s c.args.self.now.entries.now)) (c.bytes-name.ensures ∙ ap (λ s. span_bytes s c.in_ok-x.x) (c.script-script.ensures ∙ c.in_ok-x.ensures.fits.same)) (c.script-script.ensures ∙ c.in_ok-x.ensures.fits.same))) }

pub returns-in-None-clause-parsed : goal.returns-in-None-clause-parsed
returns-in-None-clause-parsed c = record { found = λ q. less (omega arith) (new_one c.in_ok-x.x _ q (bound (start (now c.args.self.now) (new_name (entries (now c.args.self.now)) (here (end (now c.args.self.now)) (words_left (now c.args.self.now))) q)) c.in_ok-x.ensures) (sym (c.if-not-begins_with_letter.ensures ∙ ap (λ b. is_ascii_alphabetic (get_or b 0 0)) (c.bytes-name.ensures ∙ ap (λ s. span_bytes s c.in_ok-x.x) (c.script-script.ensures ∙ c.in_ok-x.ensures.fits.same)))) (sym (c.in-None.ensures ∙ ap₂ (λ b s. find_entry b (entry_names s c.args.self.now.entries.now)) (c.bytes-name.ensures ∙ ap (λ s. span_bytes s c.in_ok-x.x) (c.script-script.ensures ∙ c.in_ok-x.ensures.fits.same)) (c.script-script.ensures ∙ c.in_ok-x.ensures.fits.same)))) }
