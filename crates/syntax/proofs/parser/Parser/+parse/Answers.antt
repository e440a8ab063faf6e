use Rattle.std.proofs.Common.{rules, sym, refl, ap, ◌∙◌, arith}
use Rattle.std.proofs.lemmas.Bool.{cond-true, cond-false}
use Rattle.script.specs.declared.token.Mark.TheVariants.{Maps, Comma, Closes, ClosesBrace}
use Rattle.term.specs.declared.node.Binary.TheVariants.{Pi, Sigma, Typed, Pair, Pack, Ascribe, App, Sum, Let, Unpack}
use Rattle.term.specs.State.{term}
use Rattle.term.specs.Term.{sort, unary, place}
use Rattle.grammar.specs.Grammar.{functions, lets, headed, bracketed, matches, expr, products, give, part, arguments, typed, arm}
use Rattle.syntax.specs.Choices.{quantifiers, heads, sorts}
use Rattle.syntax.specs.Parses.{now, binders, no_names, one_name, both_names, bound_steps, arrow_steps, unpack_steps, pack_steps, closing_steps, bracket_steps, valued, two_arms, TypedBinder, Valued, TwoArms, AnArm}
use Rattle.syntax.proofs.Logic.{start, halt, then_part, halt_part, gave, built, tail_part, ate, missed, expected, unexpected, called, uncalled, bound, unbound, counted, uncounted, typed_then, term_then, term_halt, names_then, arms_then, arms_halt, rest_is, like, passed_on, misfits, still, room_cell, less, added, handed_on, two_is, meaning_then, meaning_halt, closed_under, choice_is, first_is, room_name, room_names, chose, chose_none, quantified_at, headed_at, sort_at, let_rest, term_by}
use Rattle.syntax.proofs.parser.Parser.+parse.Goals as goal

pub expr-returns-clause-parsed : goal.expr-returns-clause-parsed
expr-returns-clause-parsed t c = rest_is (λ p sc. arrow_steps sc) {at = 0} _ refl (missed (chose_none quantifiers (quantified_at (now c.args.self.now)) _ _ (missed (start (now c.args.self.now) _) c.if-eat.ensures) c.in_default.ensures (λ l h. search rules)) c.if-eat-2.ensures) c.arrow.ensures.parsed (omega arith)

pub expr-returns-in-Some-clause-parsed : goal.expr-returns-in-Some-clause-parsed
expr-returns-in-Some-clause-parsed t c = rest_is (λ p sc. bound_steps p c.in-Some.binary Comma sc) _ c.here-place.ensures (chose quantifiers (quantified_at (now c.args.self.now)) _ _ c.in-Some.binary (missed (start (now c.args.self.now) _) c.if-eat.ensures) c.in-Some.ensures (λ l h. search rules)) c.bound.ensures.parsed (omega arith)

pub expr-returns-then-eat-2-clause-parsed : goal.expr-returns-then-eat-2-clause-parsed
expr-returns-then-eat-2-clause-parsed t c = rest_is (λ p sc. lets sc p) _ c.here-place.ensures (ate (chose_none quantifiers (quantified_at (now c.args.self.now)) _ _ (missed (start (now c.args.self.now) _) c.if-eat.ensures) c.in_default.ensures (λ l h. search rules)) c.if-eat-2.ensures) c.lets.ensures.parsed (omega arith)

pub expr-returns-then-eat-clause-parsed : goal.expr-returns-then-eat-clause-parsed
expr-returns-then-eat-clause-parsed t c = rest_is (λ p sc. functions sc p) _ c.here-place.ensures (ate (start (now c.args.self.now) _) c.if-eat.ensures) c.func.ensures.parsed (omega arith)

pub func-returns-clause-parsed : goal.func-returns-clause-parsed
func-returns-clause-parsed t c = record { found = built (then_part (one_name c.in-Some.x) (expected (called (start (now c.args.self.now) _) c.in-Some.ensures) c.in_ok-expect.ensures) c.in_ok-b.ensures.parsed.found) c.add.ensures.added refl (omega arith) }

pub func-returns-in_default-clause-parsed : goal.func-returns-in_default-clause-parsed
func-returns-in_default-clause-parsed t c = rest_is (λ p sc. bound_steps p Typed Maps sc) _ refl (uncalled (start (now c.args.self.now) _) c.in_default.ensures) c.bound.ensures.parsed (omega arith)

pub func-returns-in_err-b-clause-parsed : goal.func-returns-in_err-b-clause-parsed
func-returns-in_err-b-clause-parsed t c = passed_on _ c.from_residual-in_err-b.ensures.1 (halt_part (one_name c.in-Some.x) (expected (called (start (now c.args.self.now) _) c.in-Some.ensures) c.in_ok-expect.ensures) c.in_err-b.ensures.parsed.found)

pub func-returns-in_err-expect-clause-parsed : goal.func-returns-in_err-expect-clause-parsed
func-returns-in_err-expect-clause-parsed t c = passed_on _ c.from_residual.ensures.1 (unexpected (called (start (now c.args.self.now) _) c.in-Some.ensures) c.in_err-expect.ensures)

pub bound-returns-clause-parsed : goal.bound-returns-clause-parsed
bound-returns-clause-parsed t c = record { found = built (then_part (one_name c.in_ok-x.x) (expected (typed_then (start (now c.args.self.now) (bound_steps c.args.place c.args.binary c.args.mark (binders (now c.args.self.now)))) c.in_ok-x.ensures.parsed) c.in_ok-expect.ensures) c.in_ok-b.ensures.parsed.found) c.add.ensures.added (two_is c.args.binary refl (sym (still c.in_ok-x.t c.in_ok-b.ensures.parsed.found.moves c.in_ok-x.ensures.parsed.found.0)) refl) (omega arith) }

pub bound-returns-in_err-b-clause-parsed : goal.bound-returns-in_err-b-clause-parsed
bound-returns-in_err-b-clause-parsed t c = passed_on _ c.from_residual-in_err-b.ensures.1 (halt_part (one_name c.in_ok-x.x) (expected (typed_then (start (now c.args.self.now) (bound_steps c.args.place c.args.binary c.args.mark (binders (now c.args.self.now)))) c.in_ok-x.ensures.parsed) c.in_ok-expect.ensures) c.in_err-b.ensures.parsed.found)

pub bound-returns-in_err-expect-clause-parsed : goal.bound-returns-in_err-expect-clause-parsed
bound-returns-in_err-expect-clause-parsed t c = passed_on _ c.from_residual-in_err-expect.ensures.1 (unexpected (typed_then (start (now c.args.self.now) (bound_steps c.args.place c.args.binary c.args.mark (binders (now c.args.self.now)))) c.in_ok-x.ensures.parsed) c.in_err-expect.ensures)

pub bound-under-requires : goal.bound-under-requires
bound-under-requires t c = (omega (arith, (expected (typed_then (start (now c.args.self.now) (bound_steps c.args.place c.args.binary c.args.mark (binders (now c.args.self.now)))) c.in_ok-x.ensures.parsed) c.in_ok-expect.ensures).moves.words), room_name c.args.self.now.room (expected (typed_then (start (now c.args.self.now) (bound_steps c.args.place c.args.binary c.args.mark (binders (now c.args.self.now)))) c.in_ok-x.ensures.parsed) c.in_ok-expect.ensures).moves (omega arith))

pub typed-returns-clause-parsed : goal.typed-returns-clause-parsed
typed-returns-clause-parsed t c = record { found = (c.in_ok-t.ensures.parsed.found.within, λ h. less (omega arith) (expected (then_part no_names (expected (bound (expected (start (now c.args.self.now) (typed _ h)) c.in_ok-expect.ensures) c.in_ok-x.ensures) c.in_ok-expect-2.ensures) c.in_ok-t.ensures.parsed.found) c.in_ok-expect-3.ensures)) }

pub typed-returns-in_err-expect-2-clause-parsed : goal.typed-returns-in_err-expect-2-clause-parsed
typed-returns-in_err-expect-2-clause-parsed t c = handed_on (TypedBinder (now c.args.self.now) _) _ c.from_residual-in_err-expect-2.ensures.1 (record { found = λ h. unexpected (bound (expected (start (now c.args.self.now) (typed _ h)) c.in_ok-expect.ensures) c.in_ok-x.ensures) c.in_err-expect-2.ensures })

pub typed-returns-in_err-expect-3-clause-parsed : goal.typed-returns-in_err-expect-3-clause-parsed
typed-returns-in_err-expect-3-clause-parsed t c = handed_on (TypedBinder (now c.args.self.now) _) _ c.from_residual-in_err-expect-3.ensures.1 (record { found = λ h. unexpected (then_part no_names (expected (bound (expected (start (now c.args.self.now) (typed _ h)) c.in_ok-expect.ensures) c.in_ok-x.ensures) c.in_ok-expect-2.ensures) c.in_ok-t.ensures.parsed.found) c.in_err-expect-3.ensures })

pub typed-returns-in_err-expect-clause-parsed : goal.typed-returns-in_err-expect-clause-parsed
typed-returns-in_err-expect-clause-parsed t c = handed_on (TypedBinder (now c.args.self.now) _) _ c.from_residual.ensures.1 (record { found = λ h. unexpected (start (now c.args.self.now) (typed _ h)) c.in_err-expect.ensures })

pub typed-returns-in_err-t-clause-parsed : goal.typed-returns-in_err-t-clause-parsed
typed-returns-in_err-t-clause-parsed t c = handed_on (TypedBinder (now c.args.self.now) _) _ c.from_residual-in_err-t.ensures.1 (record { found = λ h. halt_part no_names (expected (bound (expected (start (now c.args.self.now) (typed _ h)) c.in_ok-expect.ensures) c.in_ok-x.ensures) c.in_ok-expect-2.ensures) c.in_err-t.ensures.parsed.found })

pub typed-returns-in_err-x-clause-parsed : goal.typed-returns-in_err-x-clause-parsed
typed-returns-in_err-x-clause-parsed t c = handed_on (TypedBinder (now c.args.self.now) _) _ c.from_residual-in_err-x.ensures.1 (record { found = λ h. unbound (expected (start (now c.args.self.now) (typed _ h)) c.in_ok-expect.ensures) c.in_err-x.ensures })

pub lets-returns-clause-parsed : goal.lets-returns-clause-parsed
lets-returns-clause-parsed t c = record { found = built (then_part (one_name c.in_ok-x.x) (expected (term_then valued {f = let_rest c.args.place c.in_ok-x.x (now c.args.self.now)} (bound (missed (start (now c.args.self.now) (lets (binders (now c.args.self.now)) c.args.place)) c.if-eat.ensures) c.in_ok-x.ensures) c.in_ok-e.ensures.parsed) c.in_ok-expect.ensures) c.in_ok-b.ensures.parsed.found) c.add.ensures.added (two_is Let refl (sym (still c.in_ok-e.e c.in_ok-b.ensures.parsed.found.moves c.in_ok-e.ensures.parsed.found.0)) refl) (omega arith) }

pub lets-returns-in_err-b-clause-parsed : goal.lets-returns-in_err-b-clause-parsed
lets-returns-in_err-b-clause-parsed t c = passed_on _ c.from_residual-in_err-b.ensures.1 (halt_part (one_name c.in_ok-x.x) (expected (term_then valued {f = let_rest c.args.place c.in_ok-x.x (now c.args.self.now)} (bound (missed (start (now c.args.self.now) (lets (binders (now c.args.self.now)) c.args.place)) c.if-eat.ensures) c.in_ok-x.ensures) c.in_ok-e.ensures.parsed) c.in_ok-expect.ensures) c.in_err-b.ensures.parsed.found)

pub lets-returns-in_err-e-clause-parsed : goal.lets-returns-in_err-e-clause-parsed
lets-returns-in_err-e-clause-parsed t c = passed_on _ c.from_residual-in_err-e.ensures.1 (term_halt valued {f = let_rest c.args.place c.in_ok-x.x (now c.args.self.now)} (bound (missed (start (now c.args.self.now) (lets (binders (now c.args.self.now)) c.args.place)) c.if-eat.ensures) c.in_ok-x.ensures) c.in_err-e.ensures.parsed)

pub lets-returns-in_err-expect-clause-parsed : goal.lets-returns-in_err-expect-clause-parsed
lets-returns-in_err-expect-clause-parsed t c = passed_on _ c.from_residual-in_err-expect.ensures.1 (unexpected (term_then valued {f = let_rest c.args.place c.in_ok-x.x (now c.args.self.now)} (bound (missed (start (now c.args.self.now) (lets (binders (now c.args.self.now)) c.args.place)) c.if-eat.ensures) c.in_ok-x.ensures) c.in_ok-e.ensures.parsed) c.in_err-expect.ensures)

pub lets-returns-in_err-x-clause-parsed : goal.lets-returns-in_err-x-clause-parsed
lets-returns-in_err-x-clause-parsed t c = passed_on _ c.from_residual.ensures.1 (unbound (missed (start (now c.args.self.now) (lets (binders (now c.args.self.now)) c.args.place)) c.if-eat.ensures) c.in_err-x.ensures)

pub lets-returns-then-eat-clause-parsed : goal.lets-returns-then-eat-clause-parsed
lets-returns-then-eat-clause-parsed t c = rest_is (λ p sc. unpack_steps p sc) _ refl (ate (start (now c.args.self.now) (lets (binders (now c.args.self.now)) c.args.place)) c.if-eat.ensures) c.unpack.ensures.parsed (omega arith)

pub lets-under-requires : goal.lets-under-requires
lets-under-requires t c = (omega (arith, (expected (term_then valued {f = let_rest c.args.place c.in_ok-x.x (now c.args.self.now)} (bound (missed (start (now c.args.self.now) (lets (binders (now c.args.self.now)) c.args.place)) c.if-eat.ensures) c.in_ok-x.ensures) c.in_ok-e.ensures.parsed) c.in_ok-expect.ensures).moves.words), room_name c.args.self.now.room (expected (term_then valued {f = let_rest c.args.place c.in_ok-x.x (now c.args.self.now)} (bound (missed (start (now c.args.self.now) (lets (binders (now c.args.self.now)) c.args.place)) c.if-eat.ensures) c.in_ok-x.ensures) c.in_ok-e.ensures.parsed) c.in_ok-expect.ensures).moves (omega arith))

pub valued-returns-clause-parsed : goal.valued-returns-clause-parsed
valued-returns-clause-parsed t c = term_by valued no_names _ (λ f. expected (missed (start (now c.args.self.now) (valued _ f)) c.if-eat.ensures) c.in_ok-expect-2.ensures) c.expr-2.ensures.parsed (omega arith)

pub valued-returns-in_err-e-clause-parsed : goal.valued-returns-in_err-e-clause-parsed
valued-returns-in_err-e-clause-parsed t c = handed_on (Valued (now c.args.self.now) _) _ c.from_residual-in_err-e.ensures.1 (record { found = λ h. halt_part no_names (expected (then_part no_names (ate (start (now c.args.self.now) (valued _ h)) c.if-eat.ensures) c.in_ok-t.ensures.parsed.found) c.in_ok-expect.ensures) c.in_err-e.ensures.parsed.found })

pub valued-returns-in_err-expect-2-clause-parsed : goal.valued-returns-in_err-expect-2-clause-parsed
valued-returns-in_err-expect-2-clause-parsed t c = handed_on (Valued (now c.args.self.now) _) _ c.from_residual-in_err-expect-2.ensures.1 (record { found = λ h. unexpected (missed (start (now c.args.self.now) (valued _ h)) c.if-eat.ensures) c.in_err-expect-2.ensures })

pub valued-returns-in_err-expect-clause-parsed : goal.valued-returns-in_err-expect-clause-parsed
valued-returns-in_err-expect-clause-parsed t c = handed_on (Valued (now c.args.self.now) _) _ c.from_residual-in_err-expect.ensures.1 (record { found = λ h. unexpected (then_part no_names (ate (start (now c.args.self.now) (valued _ h)) c.if-eat.ensures) c.in_ok-t.ensures.parsed.found) c.in_err-expect.ensures })

pub valued-returns-in_err-t-clause-parsed : goal.valued-returns-in_err-t-clause-parsed
valued-returns-in_err-t-clause-parsed t c = handed_on (Valued (now c.args.self.now) _) _ c.from_residual.ensures.1 (record { found = λ h. halt_part no_names (ate (start (now c.args.self.now) (valued _ h)) c.if-eat.ensures) c.in_err-t.ensures.parsed.found })

pub valued-returns-then-eat-clause-parsed : goal.valued-returns-then-eat-clause-parsed
valued-returns-then-eat-clause-parsed t c = record { found = (omega (arith, c.add.ensures.added.added.at, c.add.ensures.added.added.len), λ h. less (omega arith) (like (ap h (two_is Ascribe (sym (c.place-place.ensures ∙ ap place (still c.in_ok-t.t c.in_ok-e.ensures.parsed.found.moves c.in_ok-t.ensures.parsed.found.within))) refl (sym (still c.in_ok-t.t c.in_ok-e.ensures.parsed.found.moves c.in_ok-t.ensures.parsed.found.within)) ∙ sym c.add.ensures.added.added.made)) (added {d = 1} (omega arith) (then_part no_names (expected (then_part no_names (ate (start (now c.args.self.now) (valued _ h)) c.if-eat.ensures) c.in_ok-t.ensures.parsed.found) c.in_ok-expect.ensures) c.in_ok-e.ensures.parsed.found) c.add.ensures.added))) }

pub unpack-expr-requires : goal.unpack-expr-requires
unpack-expr-requires t c = (omega (arith, (expected (names_then (start (now c.args.self.now) (unpack_steps c.args.place (binders (now c.args.self.now)))) c.in_ok-x.ensures.parsed) c.in_ok-expect.ensures).moves.words), tt)

pub unpack-returns-clause-parsed : goal.unpack-returns-clause-parsed
unpack-returns-clause-parsed t c = record { found = built (then_part (both_names c.in_ok-x.x c.in_ok-x.y) (expected (then_part no_names (expected (names_then (start (now c.args.self.now) (unpack_steps c.args.place (binders (now c.args.self.now)))) c.in_ok-x.ensures.parsed) c.in_ok-expect.ensures) c.in_ok-e.ensures.parsed.found) c.in_ok-expect-2.ensures) c.in_ok-b.ensures.parsed.found) c.add.ensures.added (two_is Unpack refl (sym (still c.in_ok-e.e c.in_ok-b.ensures.parsed.found.moves c.in_ok-e.ensures.parsed.found.within)) refl) (omega arith) }

pub unpack-returns-in_err-b-clause-parsed : goal.unpack-returns-in_err-b-clause-parsed
unpack-returns-in_err-b-clause-parsed t c = passed_on _ c.from_residual-in_err-b.ensures.1 (halt_part (both_names c.in_ok-x.x c.in_ok-x.y) (expected (then_part no_names (expected (names_then (start (now c.args.self.now) (unpack_steps c.args.place (binders (now c.args.self.now)))) c.in_ok-x.ensures.parsed) c.in_ok-expect.ensures) c.in_ok-e.ensures.parsed.found) c.in_ok-expect-2.ensures) c.in_err-b.ensures.parsed.found)

pub unpack-returns-in_err-e-clause-parsed : goal.unpack-returns-in_err-e-clause-parsed
unpack-returns-in_err-e-clause-parsed t c = passed_on _ c.from_residual-in_err-e.ensures.1 (halt_part no_names (expected (names_then (start (now c.args.self.now) (unpack_steps c.args.place (binders (now c.args.self.now)))) c.in_ok-x.ensures.parsed) c.in_ok-expect.ensures) c.in_err-e.ensures.parsed.found)

pub unpack-returns-in_err-expect-2-clause-parsed : goal.unpack-returns-in_err-expect-2-clause-parsed
unpack-returns-in_err-expect-2-clause-parsed t c = passed_on _ c.from_residual-in_err-expect-2.ensures.1 (unexpected (then_part no_names (expected (names_then (start (now c.args.self.now) (unpack_steps c.args.place (binders (now c.args.self.now)))) c.in_ok-x.ensures.parsed) c.in_ok-expect.ensures) c.in_ok-e.ensures.parsed.found) c.in_err-expect-2.ensures)

pub unpack-returns-in_err-expect-clause-parsed : goal.unpack-returns-in_err-expect-clause-parsed
unpack-returns-in_err-expect-clause-parsed t c = passed_on _ c.from_residual-in_err-expect.ensures.1 (unexpected (names_then (start (now c.args.self.now) (unpack_steps c.args.place (binders (now c.args.self.now)))) c.in_ok-x.ensures.parsed) c.in_err-expect.ensures)

pub unpack-under_two-requires : goal.unpack-under_two-requires
unpack-under_two-requires t c = (omega (arith, (expected (then_part no_names (expected (names_then (start (now c.args.self.now) (unpack_steps c.args.place (binders (now c.args.self.now)))) c.in_ok-x.ensures.parsed) c.in_ok-expect.ensures) c.in_ok-e.ensures.parsed.found) c.in_ok-expect-2.ensures).moves.words), room_names c.args.self.now.room (expected (then_part no_names (expected (names_then (start (now c.args.self.now) (unpack_steps c.args.place (binders (now c.args.self.now)))) c.in_ok-x.ensures.parsed) c.in_ok-expect.ensures) c.in_ok-e.ensures.parsed.found) c.in_ok-expect-2.ensures).moves (omega arith))

pub arrow-returns-clause-parsed : goal.arrow-returns-clause-parsed
arrow-returns-clause-parsed t c = record { found = built (then_part (one_name (record { at = 0; len = 0 })) (ate (then_part no_names (start (now c.args.self.now) _) c.in_ok-e.ensures.parsed.found) c.if-not-eat.ensures) c.in_ok-f.ensures.parsed.found) c.join.ensures.added (two_is Pi (sym (ap place (still c.in_ok-e.e c.in_ok-f.ensures.parsed.found.moves c.in_ok-e.ensures.parsed.found.within))) (sym (still c.in_ok-e.e c.in_ok-f.ensures.parsed.found.moves c.in_ok-e.ensures.parsed.found.within)) refl) (omega arith) }

pub arrow-returns-in_err-e-clause-parsed : goal.arrow-returns-in_err-e-clause-parsed
arrow-returns-in_err-e-clause-parsed t c = passed_on _ c.from_residual.ensures.1 (halt_part no_names (start (now c.args.self.now) _) c.in_err-e.ensures.parsed.found)

pub arrow-returns-in_err-f-clause-parsed : goal.arrow-returns-in_err-f-clause-parsed
arrow-returns-in_err-f-clause-parsed t c = passed_on _ c.from_residual-in_err-f.ensures.1 (halt_part (one_name (record { at = 0; len = 0 })) (ate (then_part no_names (start (now c.args.self.now) _) c.in_ok-e.ensures.parsed.found) c.if-not-eat.ensures) c.in_err-f.ensures.parsed.found)

pub arrow-returns-then-not-eat-clause-parsed : goal.arrow-returns-then-not-eat-clause-parsed
arrow-returns-then-not-eat-clause-parsed t c = record { found = gave (missed (then_part no_names (start (now c.args.self.now) _) c.in_ok-e.ensures.parsed.found) c.if-not-eat.ensures) refl c.in_ok-e.ensures.parsed.found.within (omega arith) }

pub sums-returns-clause-parsed : goal.sums-returns-clause-parsed
sums-returns-clause-parsed t c = record { found = built (then_part no_names (ate (then_part no_names (start (now c.args.self.now) _) c.in_ok-e.ensures.parsed.found) c.if-not-eat.ensures) c.in_ok-f.ensures.parsed.found) c.join.ensures.added (two_is Sum (sym (ap place (still c.in_ok-e.e c.in_ok-f.ensures.parsed.found.moves c.in_ok-e.ensures.parsed.found.within))) (sym (still c.in_ok-e.e c.in_ok-f.ensures.parsed.found.moves c.in_ok-e.ensures.parsed.found.within)) refl) (omega arith) }

pub sums-returns-in_err-e-clause-parsed : goal.sums-returns-in_err-e-clause-parsed
sums-returns-in_err-e-clause-parsed t c = passed_on _ c.from_residual.ensures.1 (halt_part no_names (start (now c.args.self.now) _) c.in_err-e.ensures.parsed.found)

pub sums-returns-in_err-f-clause-parsed : goal.sums-returns-in_err-f-clause-parsed
sums-returns-in_err-f-clause-parsed t c = passed_on _ c.from_residual-in_err-f.ensures.1 (halt_part no_names (ate (then_part no_names (start (now c.args.self.now) _) c.in_ok-e.ensures.parsed.found) c.if-not-eat.ensures) c.in_err-f.ensures.parsed.found)

pub sums-returns-then-not-eat-clause-parsed : goal.sums-returns-then-not-eat-clause-parsed
sums-returns-then-not-eat-clause-parsed t c = record { found = gave (missed (then_part no_names (start (now c.args.self.now) _) c.in_ok-e.ensures.parsed.found) c.if-not-eat.ensures) refl c.in_ok-e.ensures.parsed.found.within (omega arith) }

pub prods-returns-clause-parsed : goal.prods-returns-clause-parsed
prods-returns-clause-parsed t c = record { found = built (then_part (one_name (record { at = 0; len = 0 })) (ate (then_part no_names (start (now c.args.self.now) _) c.in_ok-e.ensures.parsed.found) c.if-not-eat.ensures) c.in_ok-f.ensures.parsed.found) c.join.ensures.added (two_is Sigma (sym (ap place (still c.in_ok-e.e c.in_ok-f.ensures.parsed.found.moves c.in_ok-e.ensures.parsed.found.within))) (sym (still c.in_ok-e.e c.in_ok-f.ensures.parsed.found.moves c.in_ok-e.ensures.parsed.found.within)) refl) (omega arith) }

pub prods-returns-in_err-e-clause-parsed : goal.prods-returns-in_err-e-clause-parsed
prods-returns-in_err-e-clause-parsed t c = passed_on _ c.from_residual.ensures.1 (halt_part no_names (start (now c.args.self.now) _) c.in_err-e.ensures.parsed.found)

pub prods-returns-in_err-f-clause-parsed : goal.prods-returns-in_err-f-clause-parsed
prods-returns-in_err-f-clause-parsed t c = passed_on _ c.from_residual-in_err-f.ensures.1 (halt_part (one_name (record { at = 0; len = 0 })) (ate (then_part no_names (start (now c.args.self.now) _) c.in_ok-e.ensures.parsed.found) c.if-not-eat.ensures) c.in_err-f.ensures.parsed.found)

pub prods-returns-then-not-eat-clause-parsed : goal.prods-returns-then-not-eat-clause-parsed
prods-returns-then-not-eat-clause-parsed t c = record { found = gave (missed (then_part no_names (start (now c.args.self.now) _) c.in_ok-e.ensures.parsed.found) c.if-not-eat.ensures) refl c.in_ok-e.ensures.parsed.found.within (omega arith) }

pub app-returns-clause-parsed : goal.app-returns-clause-parsed
app-returns-clause-parsed t c = tail_part no_names _ (then_part no_names (chose_none heads (headed_at (now c.args.self.now)) _ _ (start (now c.args.self.now) _) c.in_default.ensures (λ l h. search rules)) c.in_ok-e.ensures.parsed.found) c.apply.ensures.parsed (omega arith)

pub app-returns-in-Some-clause-parsed : goal.app-returns-in-Some-clause-parsed
app-returns-in-Some-clause-parsed t c = rest_is (λ p sc. headed sc (unary p c.in-Some.unary)) _ c.here-place.ensures (chose heads (headed_at (now c.args.self.now)) _ _ c.in-Some.unary (start (now c.args.self.now) _) c.in-Some.ensures (λ l h. search rules)) c.headed.ensures.parsed (omega arith)

pub app-returns-in_err-e-clause-parsed : goal.app-returns-in_err-e-clause-parsed
app-returns-in_err-e-clause-parsed t c = passed_on _ c.from_residual.ensures.1 (halt_part no_names (chose_none heads (headed_at (now c.args.self.now)) _ _ (start (now c.args.self.now) _) c.in_default.ensures (λ l h. search rules)) c.in_err-e.ensures.parsed.found)

pub headed-returns-clause-parsed : goal.headed-returns-clause-parsed
headed-returns-clause-parsed t c = tail_part no_names _ (like (ap (λ E. part (arguments E) (binders (now c.args.self.now)) give) (sym c.add-h.ensures.added.added.made)) (added {d = 0} (omega arith) (then_part no_names (start (now c.args.self.now) _) c.in_ok-e.ensures.parsed.found) c.add-h.ensures.added)) c.apply.ensures.parsed (omega arith)

pub headed-returns-in_err-e-clause-parsed : goal.headed-returns-in_err-e-clause-parsed
headed-returns-in_err-e-clause-parsed t c = passed_on _ c.from_residual.ensures.1 (halt_part no_names (start (now c.args.self.now) _) c.in_err-e.ensures.parsed.found)

pub apply-returns-clause-parsed : goal.apply-returns-clause-parsed
apply-returns-clause-parsed t c = tail_part no_names _ (like (ap (λ E. part (arguments E) (binders (now c.args.self.now)) give) (two_is App (sym (ap place (still c.args.e c.in_ok-f.ensures.parsed.found.moves c.requires))) (sym (still c.args.e c.in_ok-f.ensures.parsed.found.moves c.requires)) refl ∙ sym c.join-h.ensures.added.added.made)) (added {d = 0} (omega arith) (then_part no_names (like (cond-true _ _ _ (sym c.if-not-begins.ensures)) (start (now c.args.self.now) _)) c.in_ok-f.ensures.parsed.found) c.join-h.ensures.added)) c.apply.ensures.parsed (omega arith)

pub apply-returns-in_err-f-clause-parsed : goal.apply-returns-in_err-f-clause-parsed
apply-returns-in_err-f-clause-parsed t c = passed_on _ c.from_residual.ensures.1 (halt_part no_names (like (cond-true _ _ _ (sym c.if-not-begins.ensures)) (start (now c.args.self.now) _)) c.in_err-f.ensures.parsed.found)

pub apply-returns-then-not-begins-clause-parsed : goal.apply-returns-then-not-begins-clause-parsed
apply-returns-then-not-begins-clause-parsed t c = record { found = gave (like (cond-false _ _ _ (sym c.if-not-begins.ensures)) (start (now c.args.self.now) _)) refl c.requires (omega arith) }

pub atom-returns-clause-parsed : goal.atom-returns-clause-parsed
atom-returns-clause-parsed t c = rest_is (λ p sc. bracket_steps p sc) _ c.here-place.ensures (missed (chose_none sorts (sort_at (now c.args.self.now)) _ _ (uncalled (start (now c.args.self.now) _) c.in_default.ensures) c.in_default-take.ensures (λ l h. search rules)) c.if-eat.ensures) c.bracket.ensures.parsed (omega arith)

pub atom-returns-in-Some-clause-parsed : goal.atom-returns-in-Some-clause-parsed
atom-returns-in-Some-clause-parsed t c = record { found = built (meaning_then c.in-Some.x c.in_ok-node.node _ c.here-place.ensures (called (start (now c.args.self.now) _) c.in-Some.ensures) c.in_ok-node.ensures) c.add.ensures.added refl (omega arith) }

pub atom-returns-in-Some-take-clause-parsed : goal.atom-returns-in-Some-take-clause-parsed
atom-returns-in-Some-take-clause-parsed t c = record { found = built (chose sorts (sort_at (now c.args.self.now)) _ _ c.in-Some-take.n (uncalled (start (now c.args.self.now) _) c.in_default.ensures) c.in-Some-take.ensures (λ l h. search rules)) c.add-in-Some-take.ensures.added (ap (λ p. sort p c.in-Some-take.n) (sym c.here-place.ensures)) (omega arith) }

pub atom-returns-in_err-n-clause-parsed : goal.atom-returns-in_err-n-clause-parsed
atom-returns-in_err-n-clause-parsed t c = passed_on _ c.from_residual-in_err-n.ensures.1 (uncounted (ate (chose_none sorts (sort_at (now c.args.self.now)) _ _ (uncalled (start (now c.args.self.now) _) c.in_default.ensures) c.in_default-take.ensures (λ l h. search rules)) c.if-eat.ensures) c.in_err-n.ensures)

pub atom-returns-in_err-node-clause-parsed : goal.atom-returns-in_err-node-clause-parsed
atom-returns-in_err-node-clause-parsed t c = passed_on _ c.from_residual.ensures.1 (meaning_halt c.in-Some.x _ c.here-place.ensures (called (start (now c.args.self.now) _) c.in-Some.ensures) c.in_err-node.ensures)

pub atom-returns-then-eat-clause-parsed : goal.atom-returns-then-eat-clause-parsed
atom-returns-then-eat-clause-parsed t c = record { found = built (counted (ate (chose_none sorts (sort_at (now c.args.self.now)) _ _ (uncalled (start (now c.args.self.now) _) c.in_default.ensures) c.in_default-take.ensures (λ l h. search rules)) c.if-eat.ensures) c.in_ok-n.ensures) c.add-then-eat.ensures.added (ap (λ p. sort p c.in_ok-n.n) (sym c.here-place.ensures)) (omega arith) }

pub bracket-returns-clause-parsed : goal.bracket-returns-clause-parsed
bracket-returns-clause-parsed t c = record { found = halt (missed (missed (missed (start (now c.args.self.now) _) c.if-eat.ensures) c.if-eat-2.ensures) c.if-eat-3.ensures) (misfits _ _ c.misfit.ensures) }

pub bracket-returns-then-eat-2-clause-parsed : goal.bracket-returns-then-eat-2-clause-parsed
bracket-returns-then-eat-2-clause-parsed t c = rest_is (λ p sc. pack_steps p sc) _ refl (ate (missed (start (now c.args.self.now) _) c.if-eat.ensures) c.if-eat-2.ensures) c.pack.ensures.parsed (omega arith)

pub bracket-returns-then-eat-3-clause-parsed : goal.bracket-returns-then-eat-3-clause-parsed
bracket-returns-then-eat-3-clause-parsed t c = rest_is (λ p sc. matches sc p) _ refl (ate (missed (missed (start (now c.args.self.now) _) c.if-eat.ensures) c.if-eat-2.ensures) c.if-eat-3.ensures) c.cases.ensures.parsed (omega arith)

pub bracket-returns-then-eat-clause-parsed : goal.bracket-returns-then-eat-clause-parsed
bracket-returns-then-eat-clause-parsed t c = rest_is (λ p sc. bracketed sc p) _ refl (ate (start (now c.args.self.now) _) c.if-eat.ensures) c.group.ensures.parsed (omega arith)

pub group-returns-clause-parsed : goal.group-returns-clause-parsed
group-returns-clause-parsed t c = record { found = gave (expected (missed (missed (then_part no_names (start (now c.args.self.now) _) c.in_ok-e.ensures.parsed.found) c.if-eat.ensures) c.if-eat-2.ensures) c.in_ok-expect.ensures) refl c.in_ok-e.ensures.parsed.found.within (omega arith) }

pub group-returns-in_err-e-clause-parsed : goal.group-returns-in_err-e-clause-parsed
group-returns-in_err-e-clause-parsed t c = passed_on _ c.from_residual.ensures.1 (halt_part no_names (start (now c.args.self.now) _) c.in_err-e.ensures.parsed.found)

pub group-returns-in_err-expect-clause-parsed : goal.group-returns-in_err-expect-clause-parsed
group-returns-in_err-expect-clause-parsed t c = passed_on _ c.from_residual-in_err-expect.ensures.1 (unexpected (missed (missed (then_part no_names (start (now c.args.self.now) _) c.in_ok-e.ensures.parsed.found) c.if-eat.ensures) c.if-eat-2.ensures) c.in_err-expect.ensures)

pub group-returns-then-eat-2-clause-parsed : goal.group-returns-then-eat-2-clause-parsed
group-returns-then-eat-2-clause-parsed t c = rest_is (λ p sc. closing_steps p Pair Closes (term c.expr.new.self.arena.now c.in_ok-e.e) sc) _ refl (ate (missed (then_part no_names (start (now c.args.self.now) _) c.in_ok-e.ensures.parsed.found) c.if-eat.ensures) c.if-eat-2.ensures) c.closing-then-eat-2.ensures.parsed (omega arith)

pub group-returns-then-eat-clause-parsed : goal.group-returns-then-eat-clause-parsed
group-returns-then-eat-clause-parsed t c = rest_is (λ p sc. closing_steps p Ascribe Closes (term c.expr.new.self.arena.now c.in_ok-e.e) sc) _ refl (ate (then_part no_names (start (now c.args.self.now) _) c.in_ok-e.ensures.parsed.found) c.if-eat.ensures) c.closing.ensures.parsed (omega arith)

pub closing-returns-clause-parsed : goal.closing-returns-clause-parsed
closing-returns-clause-parsed t c = record { found = built (expected (then_part no_names (start (now c.args.self.now) _) c.in_ok-f.ensures.parsed.found) c.in_ok-expect.ensures) c.add.ensures.added (two_is c.args.binary refl (sym (still c.args.e c.in_ok-f.ensures.parsed.found.moves c.requires)) refl) (omega arith) }

pub closing-returns-in_err-expect-clause-parsed : goal.closing-returns-in_err-expect-clause-parsed
closing-returns-in_err-expect-clause-parsed t c = passed_on _ c.from_residual-in_err-expect.ensures.1 (unexpected (then_part no_names (start (now c.args.self.now) _) c.in_ok-f.ensures.parsed.found) c.in_err-expect.ensures)

pub closing-returns-in_err-f-clause-parsed : goal.closing-returns-in_err-f-clause-parsed
closing-returns-in_err-f-clause-parsed t c = passed_on _ c.from_residual.ensures.1 (halt_part no_names (start (now c.args.self.now) _) c.in_err-f.ensures.parsed.found)

pub pack-returns-clause-parsed : goal.pack-returns-clause-parsed
pack-returns-clause-parsed t c = rest_is (λ p sc. closing_steps p Pack ClosesBrace (term c.expr.new.self.arena.now c.in_ok-e.e) sc) _ refl (expected (then_part no_names (start (now c.args.self.now) _) c.in_ok-e.ensures.parsed.found) c.in_ok-expect.ensures) c.closing.ensures.parsed (omega arith)

pub pack-returns-in_err-e-clause-parsed : goal.pack-returns-in_err-e-clause-parsed
pack-returns-in_err-e-clause-parsed t c = passed_on _ c.from_residual.ensures.1 (halt_part no_names (start (now c.args.self.now) _) c.in_err-e.ensures.parsed.found)

pub pack-returns-in_err-expect-clause-parsed : goal.pack-returns-in_err-expect-clause-parsed
pack-returns-in_err-expect-clause-parsed t c = passed_on _ c.from_residual-in_err-expect.ensures.1 (unexpected (then_part no_names (start (now c.args.self.now) _) c.in_ok-e.ensures.parsed.found) c.in_err-expect.ensures)

pub cases-add-requires-2-clause-lower : goal.cases-add-requires-2-clause-lower
cases-add-requires-2-clause-lower t c = omega (arith, c.in_ok-e.ensures.parsed.found.within, (c.in_ok-g.ensures.parsed.found.2 (λ F G. give F)).moves.kept.long, c.in_ok-g.ensures.parsed.found.0, c.in_ok-g.ensures.parsed.found.1)

pub cases-add-requires-2-clause-room : goal.cases-add-requires-2-clause-room
cases-add-requires-2-clause-room t c = room_cell c.args.self.now.room (arms_then (expected (missed (expected (expected (then_part no_names (start (now c.args.self.now) (matches (binders (now c.args.self.now)) c.args.place)) c.in_ok-e.ensures.parsed.found) c.in_ok-expect.ensures) c.in_ok-expect-2.ensures) c.if-eat.ensures) c.in_ok-expect-3.ensures) c.in_ok-g.ensures.parsed).moves (omega arith)

pub cases-add-requires-clause-lower : goal.cases-add-requires-clause-lower
cases-add-requires-clause-lower t c = omega (arith, c.in_ok-e.ensures.parsed.found.within, (c.in_ok-f.ensures.parsed.found.2 (λ F G. give F)).moves.kept.long, c.in_ok-f.ensures.parsed.found.0, c.in_ok-f.ensures.parsed.found.1)

pub cases-add-requires-clause-room : goal.cases-add-requires-clause-room
cases-add-requires-clause-room t c = room_cell c.args.self.now.room (arms_then (ate (expected (expected (then_part no_names (start (now c.args.self.now) (matches (binders (now c.args.self.now)) c.args.place)) c.in_ok-e.ensures.parsed.found) c.in_ok-expect.ensures) c.in_ok-expect-2.ensures) c.if-eat.ensures) c.in_ok-f.ensures.parsed).moves (omega arith)

pub cases-returns-clause-parsed : goal.cases-returns-clause-parsed
cases-returns-clause-parsed t c = record { found = built (arms_then (expected (missed (expected (expected (then_part no_names (start (now c.args.self.now) (matches (binders (now c.args.self.now)) c.args.place)) c.in_ok-e.ensures.parsed.found) c.in_ok-expect.ensures) c.in_ok-expect-2.ensures) c.if-eat.ensures) c.in_ok-expect-3.ensures) c.in_ok-g.ensures.parsed) c.add-2.ensures.added (choice_is (sym (still c.in_ok-e.e (c.in_ok-g.ensures.parsed.found.2 (λ F G. give F)).moves c.in_ok-e.ensures.parsed.found.within))) (omega arith) }

pub cases-returns-in_err-e-clause-parsed : goal.cases-returns-in_err-e-clause-parsed
cases-returns-in_err-e-clause-parsed t c = passed_on _ c.from_residual.ensures.1 (halt_part no_names (start (now c.args.self.now) (matches (binders (now c.args.self.now)) c.args.place)) c.in_err-e.ensures.parsed.found)

pub cases-returns-in_err-expect-2-clause-parsed : goal.cases-returns-in_err-expect-2-clause-parsed
cases-returns-in_err-expect-2-clause-parsed t c = passed_on _ c.from_residual-in_err-expect-2.ensures.1 (unexpected (expected (then_part no_names (start (now c.args.self.now) (matches (binders (now c.args.self.now)) c.args.place)) c.in_ok-e.ensures.parsed.found) c.in_ok-expect.ensures) c.in_err-expect-2.ensures)

pub cases-returns-in_err-expect-3-clause-parsed : goal.cases-returns-in_err-expect-3-clause-parsed
cases-returns-in_err-expect-3-clause-parsed t c = passed_on _ c.from_residual-in_err-expect-3.ensures.1 (unexpected (missed (expected (expected (then_part no_names (start (now c.args.self.now) (matches (binders (now c.args.self.now)) c.args.place)) c.in_ok-e.ensures.parsed.found) c.in_ok-expect.ensures) c.in_ok-expect-2.ensures) c.if-eat.ensures) c.in_err-expect-3.ensures)

pub cases-returns-in_err-expect-clause-parsed : goal.cases-returns-in_err-expect-clause-parsed
cases-returns-in_err-expect-clause-parsed t c = passed_on _ c.from_residual-in_err-expect.ensures.1 (unexpected (then_part no_names (start (now c.args.self.now) (matches (binders (now c.args.self.now)) c.args.place)) c.in_ok-e.ensures.parsed.found) c.in_err-expect.ensures)

pub cases-returns-in_err-f-clause-parsed : goal.cases-returns-in_err-f-clause-parsed
cases-returns-in_err-f-clause-parsed t c = passed_on _ c.from_residual-in_err-f.ensures.1 (arms_halt (ate (expected (expected (then_part no_names (start (now c.args.self.now) (matches (binders (now c.args.self.now)) c.args.place)) c.in_ok-e.ensures.parsed.found) c.in_ok-expect.ensures) c.in_ok-expect-2.ensures) c.if-eat.ensures) c.in_err-f.ensures.parsed)

pub cases-returns-in_err-g-clause-parsed : goal.cases-returns-in_err-g-clause-parsed
cases-returns-in_err-g-clause-parsed t c = passed_on _ c.from_residual-in_err-g.ensures.1 (arms_halt (expected (missed (expected (expected (then_part no_names (start (now c.args.self.now) (matches (binders (now c.args.self.now)) c.args.place)) c.in_ok-e.ensures.parsed.found) c.in_ok-expect.ensures) c.in_ok-expect-2.ensures) c.if-eat.ensures) c.in_ok-expect-3.ensures) c.in_err-g.ensures.parsed)

pub cases-returns-then-eat-clause-parsed : goal.cases-returns-then-eat-clause-parsed
cases-returns-then-eat-clause-parsed t c = record { found = built (arms_then (ate (expected (expected (then_part no_names (start (now c.args.self.now) (matches (binders (now c.args.self.now)) c.args.place)) c.in_ok-e.ensures.parsed.found) c.in_ok-expect.ensures) c.in_ok-expect-2.ensures) c.if-eat.ensures) c.in_ok-f.ensures.parsed) c.add.ensures.added (choice_is (sym (still c.in_ok-e.e (c.in_ok-f.ensures.parsed.found.2 (λ F G. give F)).moves c.in_ok-e.ensures.parsed.found.within))) (omega arith) }

pub two_arms-arm-requires-2 : goal.two_arms-arm-requires-2
two_arms-arm-requires-2 t c = (omega (arith, (expected (expected (term_then arm (start (now c.args.self.now) (two_arms c.args.mark (binders (now c.args.self.now)) (λ F G. give F))) c.in_ok-f.ensures.parsed) c.in_ok-expect.ensures) c.in_ok-expect-2.ensures).moves.words), tt)

pub two_arms-returns-clause-parsed : goal.two_arms-returns-clause-parsed
two_arms-returns-clause-parsed t c = record { found = (omega (arith, c.in_ok-f.ensures.parsed.found.0, (c.in_ok-g.ensures.parsed.found.1 (λ F. give F)).moves.kept.long), c.in_ok-g.ensures.parsed.found.0, λ h. less (omega arith) (like (first_is h (sym (still c.in_ok-f.f (c.in_ok-g.ensures.parsed.found.1 (λ F. give F)).moves c.in_ok-f.ensures.parsed.found.0))) (expected (term_then arm (expected (expected (term_then arm (start (now c.args.self.now) (two_arms c.args.mark _ h)) c.in_ok-f.ensures.parsed) c.in_ok-expect.ensures) c.in_ok-expect-2.ensures) c.in_ok-g.ensures.parsed) c.in_ok-expect-3.ensures))) }

pub two_arms-returns-in_err-expect-2-clause-parsed : goal.two_arms-returns-in_err-expect-2-clause-parsed
two_arms-returns-in_err-expect-2-clause-parsed t c = handed_on (TwoArms c.args.mark (now c.args.self.now) _) _ c.from_residual-in_err-expect-2.ensures.1 (record { found = λ h. unexpected (expected (term_then arm (start (now c.args.self.now) (two_arms c.args.mark _ h)) c.in_ok-f.ensures.parsed) c.in_ok-expect.ensures) c.in_err-expect-2.ensures })

pub two_arms-returns-in_err-expect-3-clause-parsed : goal.two_arms-returns-in_err-expect-3-clause-parsed
two_arms-returns-in_err-expect-3-clause-parsed t c = handed_on (TwoArms c.args.mark (now c.args.self.now) _) _ c.from_residual-in_err-expect-3.ensures.1 (record { found = λ h. unexpected (term_then arm (expected (expected (term_then arm (start (now c.args.self.now) (two_arms c.args.mark _ h)) c.in_ok-f.ensures.parsed) c.in_ok-expect.ensures) c.in_ok-expect-2.ensures) c.in_ok-g.ensures.parsed) c.in_err-expect-3.ensures })

pub two_arms-returns-in_err-expect-clause-parsed : goal.two_arms-returns-in_err-expect-clause-parsed
two_arms-returns-in_err-expect-clause-parsed t c = handed_on (TwoArms c.args.mark (now c.args.self.now) _) _ c.from_residual-in_err-expect.ensures.1 (record { found = λ h. unexpected (term_then arm (start (now c.args.self.now) (two_arms c.args.mark _ h)) c.in_ok-f.ensures.parsed) c.in_err-expect.ensures })

pub two_arms-returns-in_err-f-clause-parsed : goal.two_arms-returns-in_err-f-clause-parsed
two_arms-returns-in_err-f-clause-parsed t c = handed_on (TwoArms c.args.mark (now c.args.self.now) _) _ c.from_residual.ensures.1 (record { found = λ h. term_halt arm (start (now c.args.self.now) (two_arms c.args.mark _ h)) c.in_err-f.ensures.parsed })

pub two_arms-returns-in_err-g-clause-parsed : goal.two_arms-returns-in_err-g-clause-parsed
two_arms-returns-in_err-g-clause-parsed t c = handed_on (TwoArms c.args.mark (now c.args.self.now) _) _ c.from_residual-in_err-g.ensures.1 (record { found = λ h. term_halt arm (expected (expected (term_then arm (start (now c.args.self.now) (two_arms c.args.mark _ h)) c.in_ok-f.ensures.parsed) c.in_ok-expect.ensures) c.in_ok-expect-2.ensures) c.in_err-g.ensures.parsed })

pub arm-returns-clause-parsed : goal.arm-returns-clause-parsed
arm-returns-clause-parsed t c = term_by arm (one_name c.in_ok-x.x) _ (λ f. expected (bound (start (now c.args.self.now) (arm _ f)) c.in_ok-x.ensures) c.in_ok-expect.ensures) c.under.ensures.parsed (omega arith)

pub arm-returns-in_err-expect-clause-parsed : goal.arm-returns-in_err-expect-clause-parsed
arm-returns-in_err-expect-clause-parsed t c = handed_on (AnArm (now c.args.self.now) _) _ c.from_residual-in_err-expect.ensures.1 (record { found = λ h. unexpected (bound (start (now c.args.self.now) (arm _ h)) c.in_ok-x.ensures) c.in_err-expect.ensures })

pub arm-returns-in_err-x-clause-parsed : goal.arm-returns-in_err-x-clause-parsed
arm-returns-in_err-x-clause-parsed t c = handed_on (AnArm (now c.args.self.now) _) _ c.from_residual.ensures.1 (record { found = λ h. unbound (start (now c.args.self.now) (arm _ h)) c.in_err-x.ensures })

pub under-returns-clause-parsed : goal.under-returns-clause-parsed
under-returns-clause-parsed t c = closed_under no_names expr c.open-was.ensures.opened c.open-was.ensures.was c.expr.ensures.parsed c.drop-open.ensures.closed

pub prods_under-returns-clause-parsed : goal.prods_under-returns-clause-parsed
prods_under-returns-clause-parsed t c = closed_under no_names products c.open-was.ensures.opened c.open-was.ensures.was c.prods.ensures.parsed c.drop-open.ensures.closed

pub under_two-returns-clause-parsed : goal.under_two-returns-clause-parsed
under_two-returns-clause-parsed t c = closed_under (one_name c.args.y) expr c.open-was.ensures.opened c.open-was.ensures.was c.under.ensures.parsed c.drop-open.ensures.closed
