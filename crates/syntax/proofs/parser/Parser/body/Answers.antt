use Rattle.std.proofs.Common.{[], sym, refl, ap, arith}
use Rattle.grammar.specs.Grammar.{eat, give}
use Rattle.syntax.specs.Parses.{now, valued}
use Rattle.script.specs.declared.token.Mark.TheVariants.{Colon}
use Rattle.grammar.specs.Grammar.{ending}
use Rattle.syntax.specs.Reads.{whole_steps}
use Rattle.syntax.proofs.Ends.{finished, overran, none_open, of_kind, of_either, nil_is}
use Rattle.syntax.proofs.Logic.{start, gave, expected, unexpected, term_then, term_halt, rest_is, like, passed_on}
use Rattle.syntax.proofs.parser.Parser.body.Goals as goal

pub returns-in_err-new_name-in-Def-clause-parsed : goal.returns-in_err-new_name-in-Def-clause-parsed
returns-in_err-new_name-in-Def-clause-parsed c = of_kind c.in-Def.is (passed_on _ c.from_residual.ensures.1 (c.in_err-new_name-in-Def.ensures.parsed.found (valued [] (λ E. ending (give E)))))

pub returns-in_err-e-in-Def-clause-parsed : goal.returns-in_err-e-in-Def-clause-parsed
returns-in_err-e-in-Def-clause-parsed c = of_kind c.in-Def.is (passed_on _ c.from_residual-in_err-e-in-Def.ensures.1 (term_halt valued {f = (λ E. ending (give E))} (like (ap (λ sc. valued sc (λ E. ending (give E))) (sym (none_open (now c.args.self.now) c.requires))) (c.in_ok-new_name-in-Def.ensures.parsed.found (valued [] (λ E. ending (give E))))) c.in_err-e-in-Def.ensures.parsed))

pub returns-in_err-finish-in-Def-clause-parsed : goal.returns-in_err-finish-in-Def-clause-parsed
returns-in_err-finish-in-Def-clause-parsed c = of_kind c.in-Def.is (passed_on _ c.from_residual-in_err-finish-in-Def.ensures.1 (overran (term_then valued {f = (λ E. ending (give E))} (like (ap (λ sc. valued sc (λ E. ending (give E))) (sym (none_open (now c.args.self.now) c.requires))) (c.in_ok-new_name-in-Def.ensures.parsed.found (valued [] (λ E. ending (give E))))) c.in_ok-e-in-Def.ensures.parsed) c.in_err-finish-in-Def.ensures))

pub returns-in_ok-finish-in-Def-clause-parsed : goal.returns-in_ok-finish-in-Def-clause-parsed
returns-in_ok-finish-in-Def-clause-parsed c = of_kind c.in-Def.is (record { found = gave (finished (term_then valued {f = (λ E. ending (give E))} (like (ap (λ sc. valued sc (λ E. ending (give E))) (sym (none_open (now c.args.self.now) c.requires))) (c.in_ok-new_name-in-Def.ensures.parsed.found (valued [] (λ E. ending (give E))))) c.in_ok-e-in-Def.ensures.parsed) c.in_ok-finish-in-Def.ensures) refl c.in_ok-e-in-Def.ensures.parsed.found.0 (omega arith) })

pub returns-in_ok-finish-in-Def-clause-over : goal.returns-in_ok-finish-in-Def-clause-over
returns-in_ok-finish-in-Def-clause-over c = nil_is _ c.in_ok-finish-in-Def.ensures.found

pub returns-in_err-new_name-in-Axiom-clause-parsed : goal.returns-in_err-new_name-in-Axiom-clause-parsed
returns-in_err-new_name-in-Axiom-clause-parsed c = of_kind c.in-Axiom.is (passed_on _ c.from_residual-in_err-new_name-in-Axiom.ensures.1 (c.in_err-new_name-in-Axiom.ensures.parsed.found (eat Colon (whole_steps []))))

pub returns-in_err-expect-in-Axiom-clause-parsed : goal.returns-in_err-expect-in-Axiom-clause-parsed
returns-in_err-expect-in-Axiom-clause-parsed c = of_kind c.in-Axiom.is (passed_on _ c.from_residual-in_err-expect-in-Axiom.ensures.1 (unexpected (c.in_ok-new_name-in-Axiom.ensures.parsed.found (eat Colon (whole_steps []))) c.in_err-expect-in-Axiom.ensures))

pub returns-in_ok-expect-in-Axiom-clause-parsed : goal.returns-in_ok-expect-in-Axiom-clause-parsed
returns-in_ok-expect-in-Axiom-clause-parsed c = of_kind c.in-Axiom.is (rest_is (λ p sc. whole_steps sc) {at = 0} _ refl (like (ap whole_steps (sym (none_open (now c.args.self.now) c.requires))) (expected (c.in_ok-new_name-in-Axiom.ensures.parsed.found (eat Colon (whole_steps []))) c.in_ok-expect-in-Axiom.ensures)) c.whole.ensures.parsed (omega arith))

pub returns-in-Check-clause-parsed : goal.returns-in-Check-clause-parsed
returns-in-Check-clause-parsed c = let judged = (rest_is (λ p sc. whole_steps sc) {at = 0} _ refl (like (ap whole_steps (sym (none_open (now c.args.self.now) c.requires))) (start (now c.args.self.now) (whole_steps []))) c.whole-in-Check.ensures.parsed (omega arith)) in of_either c.in-Check.is judged judged
