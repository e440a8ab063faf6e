-- Within any budget a judgement is derived, is refused, or its count passes the budget.
use Rattle.std.proofs.Common.{◌≡◌, ℕ, zero, suc, ◌+◌, ◌-◌, ◌<◌, ◌≤◌, List, Some, None, Option, refl, subst, arith}
use native.Mathlib.Decide.{dec_lt}
use Rattle.term.specs.Term.{Term, bare}
use Rattle.rules.specs.Rules.{Judgement, Question, Entry, rule}
use Rattle.rules.specs.Rules.{Premises, conclude, refuse, pay, ask, premise, same}
use Rattle.rules.specs.Derivation.{System, Spot, spot, Derives, rule_use, done, paid, told, proved, equal}
use Rattle.rules.specs.Derivation.{no_rule, stop_rule_use, here, stop_paid, stop_told, none, stop_proved, fails, stop_equal, differs}
use Rattle.rules.specs.Derivation.{at_once, pass_rule_use, Passes, paying, pass_paid, pass_told, within, pass_proved, pass_equal}
use Rattle.rules.specs.Laws.{Judged, derived, refused, exceeded, Followed, concluded, halted, passed}
use Rattle.rules.proofs.Alike.{same_term}

module _ (S : System) (es : List Entry) where
  follow_paid : {w : Spot} {m : ℕ} {c : Premises} {b : ℕ} → m ≤ b → Followed S es w c (b - m) → Followed S es w (pay m c) b
  follow_paid {m = m} l (concluded t v n d h) = concluded t v (m + n) (paid d) (omega arith)
  follow_paid {m = m} l (halted r n d h) = halted r (m + n) (stop_paid d) (omega arith)
  follow_paid {m = m} {c = c} {b = b} l (passed d) =
      let e : m + (b - m) ≡ b = omega arith in
      passed (subst (λ x. Passes S es (pay m c) x) e (pass_paid d))

  follow_proved : {w : Spot} {j : Judgement} {k : Term → Premises} {u : Term} {m b : ℕ} → Derives S es j u m → m ≤ b → Followed S es w (k u) (b - m) → Followed S es w (premise j k) b
  follow_proved {m = m} p l (concluded t v n d h) = concluded t v (m + n) (proved p d) (omega arith)
  follow_proved {m = m} p l (halted r n d h) = halted r (m + n) (stop_proved p d) (omega arith)
  follow_proved {j = j} {k = k} {m = m} {b = b} p l (passed d) =
      let e : m + (b - m) ≡ b = omega arith in
      passed (subst (λ x. Passes S es (premise j k) x) e (pass_proved p d))

  follow_told : {w : Spot} {q : Question} {k : ℕ → Premises} {s b : ℕ} → S q ≡ Some s → Followed S es w (k s) b → Followed S es w (ask q k) b
  follow_told e (concluded t v n d h) = concluded t v n (told e d) h
  follow_told e (halted r n d h) = halted r n (stop_told e d) h
  follow_told e (passed d) = passed (pass_told e d)

  follow_equal : {w : Spot} {x y : Term} {c : Premises} {b : ℕ} → bare x ≡ bare y → Followed S es w c b → Followed S es w (same x y c) b
  follow_equal e (concluded t v n d h) = concluded t v n (equal e d) h
  follow_equal e (halted r n d h) = halted r n (stop_equal e d) h
  follow_equal e (passed d) = passed (pass_equal e d)

  after_pay : {w : Spot} {m : ℕ} {c : Premises} {b : ℕ} → Dec (b < m) → ((d : ℕ) → d ≤ b → Followed S es w c d) → Followed S es w (pay m c) b
  after_pay (yes h) f = passed (paying h)
  after_pay {m = m} {b = b} (no h) f = follow_paid (omega arith) (f (b - m) (omega arith))

  after_ask : {w : Spot} {q : Question} {k : ℕ → Premises} {b : ℕ} (a : Option ℕ) → S q ≡ a → ((s : ℕ) → Followed S es w (k s) b) → Followed S es w (ask q k) b
  after_ask None e f = halted _ 0 (none e) (omega arith)
  after_ask (Some s) e f = follow_told e (f s)

  after_premise : {w : Spot} {j : Judgement} {k : Term → Premises} {b : ℕ} → Judged S es j b → ((u : Term) (d : ℕ) → d ≤ b → Followed S es w (k u) d) → Followed S es w (premise j k) b
  after_premise {b = b} (derived u m p l) f = follow_proved p l (f u (b - m) (omega arith))
  after_premise (refused r n p l) f = halted r n (fails p) l
  after_premise (exceeded p) f = passed (within p)

  after_same : {w : Spot} {x y : Term} {c : Premises} {b : ℕ} → Dec (bare x ≡ bare y) → Followed S es w c b → Followed S es w (same x y c) b
  after_same (yes e) f = follow_equal e f
  after_same (no e) f = halted _ 0 (differs e) (omega arith)

  -- what comes of the premises c, given what comes of each judgement within a budget up to k
  follow : (k : ℕ) → ((j : Judgement) (b : ℕ) → b ≤ k → Judged S es j b) → (w : Spot) (c : Premises) (b : ℕ) → b ≤ k → Followed S es w c b
  follow k judge w (conclude t v) b l = concluded t v 0 done (omega arith)
  follow k judge w (refuse x) b l = halted _ 0 here (omega arith)
  follow k judge w (pay m c) b l = after_pay (dec_lt b m) (λ d h. follow k judge w c d (omega arith))
  follow k judge w (ask q f) b l = after_ask (S q) refl (λ s. follow k judge w (f s) b l)
  follow k judge w (premise j f) b l = after_premise (judge j b l) (λ u d h. follow k judge w (f u) d (omega arith))
  follow k judge w (same x y c) b l = after_same (same_term (bare x) (bare y)) (follow k judge w c b l)

  after_rule : {j : Judgement} {b : ℕ} {c : Premises} → rule es j ≡ Some c → Followed S es (spot j) c b → Judged S es j (1 + b)
  after_rule {c = c} e (concluded t v n d l) = derived t (1 + n) (rule_use c e d) (omega arith)
  after_rule {c = c} e (halted r n d l) = refused r (1 + n) (stop_rule_use c e d) (omega arith)
  after_rule {c = c} e (passed d) = exceeded (pass_rule_use c e d)

  no_budget : {j : Judgement} (r : Option Premises) → rule es j ≡ r → Judged S es j 0
  no_budget None e = refused _ 0 (no_rule e) (omega arith)
  no_budget (Some c) e = exceeded (at_once c e)

  by_rule : {j : Judgement} {b : ℕ} (r : Option Premises) → rule es j ≡ r → ((c : Premises) → Followed S es (spot j) c b) → Judged S es j (1 + b)
  by_rule None e f = refused _ 0 (no_rule e) (omega arith)
  by_rule (Some c) e f = after_rule e (f c)

  judge_to : (k : ℕ) (j : Judgement) (b : ℕ) → b ≤ k → Judged S es j b
  judge_to zero j b l =
      let e : 0 ≡ b = omega arith in
      subst (λ x. Judged S es j x) e (no_budget (rule es j) refl)
  judge_to (suc k) j zero l = no_budget (rule es j) refl
  judge_to (suc k) j (suc b) l =
      let e : 1 + b ≡ suc b = omega arith in
      subst (λ x. Judged S es j x) e (by_rule (rule es j) refl (λ c. follow k (judge_to k) (spot j) c b (omega arith)))

  pub judge : (j : Judgement) (b : ℕ) → Judged S es j b
  judge j b = judge_to b j b (omega arith)

  pub outcome : (w : Spot) (c : Premises) (b : ℕ) → Followed S es w c b
  outcome w c b = follow b (judge_to b) w c b (omega arith)
