-- What holds of derivations, refusals and passed budgets, whatever the system and the entries: of
-- each judgement, and of premises in any order, such as those of a statement.
use Rattle.std.specs.Prelude.{◌≡◌, ℕ, ◌<◌, ◌≤◌, true, List, Some, Option, ◌≢◌}
use Rattle.term.specs.Term.{Term, closed}
use Rattle.rules.specs.declared.refusal.Reason.TheVariants.{NoSort}
use Rattle.rules.specs.declared.refusal.Refusal.{Refusal}
use Rattle.rules.specs.Rules.{Judgement, Question, Entry, Premises}
use Rattle.rules.specs.Scope.{Sealed, Scoped, depth}
use Rattle.rules.specs.Derivation.{System, Spot, Derives, Chain, Refuses, Halts, Exceeds, Passes}

-- the second system answers alike wherever the first names a sort
abbrev pub Wider : System → System → Type 0
Wider S W = (q : Question) (s : ℕ) → S q ≡ Some s → W q ≡ Some s

module _ (S : System) (es : List Entry) where
  -- what can come of a judgement within a budget
  pub data Judged (j : Judgement) (b : ℕ) : Type 0 where
    derived : (t : Term) (n : ℕ) → Derives S es j t n → n ≤ b → Judged j b
    refused : (r : Refusal) (n : ℕ) → Refuses S es j r n → n ≤ b → Judged j b
    exceeded : Exceeds S es j b → Judged j b

  -- and of premises
  pub data Followed (w : Spot) (c : Premises) (b : ℕ) : Type 0 where
    concluded : (t : Term) (v : Option Term) (n : ℕ) → Chain S es c t v n → n ≤ b → Followed w c b
    halted : (r : Refusal) (n : ℕ) → Halts S es w c r n → n ≤ b → Followed w c b
    passed : Passes S es c b → Followed w c b

  -- a judgement has at most one result and cost, and at most one refusal and cost; never both; a
  -- passed budget is less than the cost of either; within every budget there is one of the three
  pub record JudgementLaws (j : Judgement) : Type 0 where
    pub one_result : (t u : Term) (m n : ℕ) → Derives S es j t m → Derives S es j u n → (t ≡ u) × (m ≡ n)
    pub one_refusal : (r s : Refusal) (m n : ℕ) → Refuses S es j r m → Refuses S es j s n → (r ≡ s) × (m ≡ n)
    pub not_both : (t : Term) (r : Refusal) (m n : ℕ) → Derives S es j t m → Refuses S es j r n → ⊥
    pub passed_derived : (t : Term) (m b : ℕ) → Derives S es j t m → Exceeds S es j b → b < m
    pub passed_refused : (r : Refusal) (m b : ℕ) → Refuses S es j r m → Exceeds S es j b → b < m
    pub some_outcome : (b : ℕ) → Judged j b

  -- the same of premises
  pub record PremiseLaws (w : Spot) (c : Premises) : Type 0 where
    pub one_result : (t u : Term) (v x : Option Term) (m n : ℕ) → Chain S es c t v m → Chain S es c u x n → (t ≡ u) × (v ≡ x) × (m ≡ n)
    pub one_refusal : (r s : Refusal) (m n : ℕ) → Halts S es w c r m → Halts S es w c s n → (r ≡ s) × (m ≡ n)
    pub not_both : (t : Term) (v : Option Term) (r : Refusal) (m n : ℕ) → Chain S es c t v m → Halts S es w c r n → ⊥
    pub passed_derived : (t : Term) (v : Option Term) (m b : ℕ) → Chain S es c t v m → Passes S es c b → b < m
    pub passed_refused : (r : Refusal) (m b : ℕ) → Halts S es w c r m → Passes S es c b → b < m
    pub some_outcome : (b : ℕ) → Followed w c b

  -- with a wider system every derivation, every passed budget and every refusal stays, but for those
  -- where the first named no sort
  pub record WiderLaws (W : System) : Type 0 where
    pub derives : (j : Judgement) (t : Term) (n : ℕ) → Derives S es j t n → Derives W es j t n
    pub refuses : (j : Judgement) (r : Refusal) (n : ℕ) → (r.reason ≢ NoSort) → Refuses S es j r n → Refuses W es j r n
    pub exceeds : (j : Judgement) (b : ℕ) → Exceeds S es j b → Exceeds W es j b
    pub concludes : (c : Premises) (t : Term) (v : Option Term) (n : ℕ) → Chain S es c t v n → Chain W es c t v n
    pub halts : (w : Spot) (c : Premises) (r : Refusal) (n : ℕ) → (r.reason ≢ NoSort) → Halts S es w c r n → Halts W es w c r n
    pub passes : (c : Premises) (b : ℕ) → Passes S es c b → Passes W es c b

pub record LawsOf (S : System) (es : List Entry) : Type 0 where
  pub judgements : (j : Judgement) → JudgementLaws S es j
  pub premises : (w : Spot) (c : Premises) → PremiseLaws S es w c
  pub wider : (W : System) → Wider S W → WiderLaws S es W
  -- no local of a result lacks its binder, if none of the entries and of the judgement does
  pub scoped : Sealed es → (j : Judgement) (t : Term) (n : ℕ) → Scoped j → Derives S es j t n → closed (depth j) t ≡ true

abbrev pub Laws : Type 0
Laws = (S : System) (es : List Entry) → LawsOf S es
