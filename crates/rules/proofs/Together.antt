-- The laws put together.
use Rattle.std.proofs.Common.{List, arith}
use Rattle.rules.specs.Rules.{Judgement, Entry, Premises}
use Rattle.rules.specs.Derivation.{System, Spot}
use Rattle.rules.specs.Laws.{Wider, JudgementLaws, PremiseLaws, WiderLaws, Laws}
use Rattle.rules.proofs.Unique.{derives_unique, chain_unique, not_refused, not_halted, exceeds_less, passes_less, refuses_unique, halts_unique, refuses_less, halts_less}
use Rattle.rules.proofs.Outcome.{judge, outcome}
use Rattle.rules.proofs.Scope.{derives_closed}
use Rattle.rules.proofs.Widening.{wider_derives, wider_chain, wider_exceeds, wider_passes, wider_refuses, wider_halts}

module _ (S : System) (es : List Entry) where
  judgement_laws : (j : Judgement) → JudgementLaws S es j
  judgement_laws j =
      record {
        one_result = λ t u m n. derives_unique S es;
        one_refusal = λ r s m n. refuses_unique S es;
        not_both = λ t r m n. not_refused S es;
        passed_derived = λ t m b. exceeds_less S es;
        passed_refused = λ r m b. refuses_less S es;
        some_outcome = judge S es j;
      }

  premise_laws : (w : Spot) (c : Premises) → PremiseLaws S es w c
  premise_laws w c =
      record {
        one_result = λ t u v x m n. chain_unique S es;
        one_refusal = λ r s m n. halts_unique S es;
        not_both = λ t v r m n. not_halted S es;
        passed_derived = λ t v m b. passes_less S es;
        passed_refused = λ r m b. halts_less S es;
        some_outcome = outcome S es w c;
      }

  wider_laws : (W : System) → Wider S W → WiderLaws S es W
  wider_laws W h = grind (arith, wider_derives, wider_refuses, wider_exceeds, wider_chain, wider_halts, wider_passes)

pub laws : Laws
laws S es = record { judgements = judgement_laws S es; premises = premise_laws S es; wider = wider_laws S es; scoped = derives_closed S es }
