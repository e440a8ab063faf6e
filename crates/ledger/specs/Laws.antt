-- The laws of a book, under every sort system, for every script, every size and every list of calls.
use Rattle.std.specs.Prelude.{◌≡◌, ℕ, ◌+◌, ◌≤◌, min, true, ◌⊎◌, ◌↔◌, List, [], ◌∷◌, ◌++◌, length, is_some, Some, None, Option}
use Rattle.script.specs.declared.statement.Statement.{Statement}
use Rattle.script.specs.declared.statement.StatementKind.{StatementKind}
use Rattle.script.specs.Statements.{enters}
use Rattle.term.specs.Term.{Term}
use Rattle.rules.specs.declared.refusal.Refusal.{Refusal}
use Rattle.rules.specs.Derivation.{System}
use Rattle.rules.specs.Laws.{Wider}
use Rattle.rules.specs.Statement.{Derivation, Refusing}
use Rattle.grammar.specs.Grammar.{tree}
use Rattle.ledger.specs.State.{Standing, Verdict, Opened, State, new, entries_of, next_at, ReadsAt, used, unsized}
use Rattle.ledger.specs.Calls.{Token, same_numbers, Call, submit, handed_in, Answer, accepted, verdict, refused, Refused, by_book, by_judging, Judging, Step, Run}

-- the statement of an entry: the script says it at some place, and its names, read by the entries es
-- before it, make it one about E
pub record Says (script : List ℕ) (es : List Standing) (e : Standing) (E : Term) : Type 0 where
  pub place : ℕ
  pub statement : Statement
  pub next : next_at script place ≡ Some statement
  pub at : statement.at ≡ e.at
  pub kind : statement.kind ≡ Some e.kind
  pub name : statement.name ≡ Some e.name
  pub reading : ReadsAt script es place statement (tree E [])

-- none of the answers is refusal 11
abbrev pub Not11 : Answer → Type 0
Not11 accepted = Unit {0}
Not11 (verdict v) = Unit {0}
Not11 (refused r t) = r.number ≡ 11 → ⊥

abbrev pub Never11 : List Answer → Type 0
Never11 [] = Unit {0}
Never11 (a ∷ ys) = Not11 a × Never11 ys

-- the refusals that move to the next statement
abbrev pub Moves : ℕ → Type 0
Moves k = ((1 ≤ k) × (k ≤ 5)) ⊎ ((7 ≤ k) × (k ≤ 11))

-- the answers of submit that move to the next statement
abbrev pub Advances : Answer → Type 0
Advances accepted = Unit {0}
Advances (verdict v) = Unit {0}
Advances (refused r t) = Moves r.number

-- what an answer has cost: only submits cost anything
abbrev pub cost_of : Answer → ℕ
cost_of accepted = 0
cost_of (verdict v) = v.cost
cost_of (refused r t) = r.cost

abbrev pub costs : List Answer → ℕ
costs [] = 0
costs (a ∷ ys) = cost_of a + costs ys

module _ (S : System) where
  -- every call in every state has an answer and a next state
  abbrev pub Answered : Type 0
  Answered = (b : State) (x : Call) → (a : Answer) × (c : State) × Step S b x a c

  -- and only one of each
  abbrev pub Settled : Type 0
  Settled = (b c d : State) (x : Call) (a e : Answer) → Step S b x a c → Step S b x e d → (a ≡ e) × (c ≡ d)

  -- a book of other sizes answers every call with 13 and stays as it is
  abbrev pub Unsized : Type 0
  Unsized = (b c : State) (x : Call) (a : Answer) → unsized b.opened ≡ true → Step S b x a c →
      (a ≡ refused (by_book 13) (handed_in x)) × (c ≡ b)

  -- at a refusal entries and pending verdict stand unaltered, and so do the used cells; what was handed
  -- in is handed back; the place stays, or the refusal is one that moves
  abbrev pub Unaltered : Type 0
  Unaltered = (b c : State) (x : Call) (r : Refused) (t : Option Token) → Step S b x (refused r t) c →
      (c.opened ≡ b.opened) × (c.standing ≡ b.standing) × (c.pending ≡ b.pending) × (used c ≡ used b) × (t ≡ handed_in x) × (Moves r.number ⊎ (c.at ≡ b.at))

  -- an acceptance and a refusal that moves leave the book at the end of the statement submitted
  abbrev pub Advanced : Type 0
  Advanced = (b c : State) (n : ℕ) (a : Answer) (st : Statement) → Step S b (submit n) a c → Advances a →
      next_at b.opened.script b.at ≡ Some st → c.at ≡ st.end

  -- used cells and entries never pass those that the book was opened with
  abbrev pub Bounded : Type 0
  Bounded = (o : Opened) (xs : List Call) (ys : List Answer) (b : State) → Run S (new o) xs ys b → (used b ≤ o.cells) × (length b.standing ≤ o.entries)

  -- the total is what the submits have cost, held at 10^12
  abbrev pub Totalled : Type 0
  Totalled = (o : Opened) (xs : List Call) (ys : List Answer) (b : State) → Run S (new o) xs ys b → b.total ≡ min (costs ys) 1000000000000

  -- every entry's statement has a derivation of its type and value from the entries before it
  abbrev pub Grounded : Type 0
  Grounded = (o : Opened) (xs : List Call) (ys : List Answer) (b : State) → Run S (new o) xs ys b →
      (es later : List Standing) (e : Standing) → b.standing ≡ es ++ (e ∷ later) →
      (E : Term) × Says o.script es e E × ((n : ℕ) × Derivation S (entries_of es) e.kind E e.type e.value n)

  -- a statement that gets as far as judging is accepted exactly when some derivation of it from the
  -- entries then standing costs at most its budget
  abbrev pub Accepting : Type 0
  Accepting = (b : State) (n : ℕ) (st : Statement) (k : StatementKind) (E : Term) → Judging b n st k E →
      ((v : Verdict) × (c : State) × Step S b (submit n) (verdict v) c)
      ↔ ((P : Term) × (v : Option Term) × (m : ℕ) × Derivation S (entries_of b.standing) k E P v m × (m ≤ n))

  -- every verdict has the type, value and cost of such a derivation
  abbrev pub Right : Type 0
  Right = (b c : State) (n : ℕ) (v : Verdict) → Step S b (submit n) (verdict v) c →
      (st : Statement) × (E : Term) × Judging b n st v.kind E × (v.at ≡ st.at) × (v.name ≡ st.name)
      × Derivation S (entries_of b.standing) v.kind E v.type v.value v.cost × (v.cost ≤ n)

  -- refusals 7 to 11 never meet a statement that has a derivation from the entries then standing at any
  -- cost, and come with the number, cost, place and layer that the rules give
  abbrev pub Refusals : Type 0
  Refusals = (b c : State) (n : ℕ) (r : Refused) (t : Option Token) → Step S b (submit n) (refused r t) c → 7 ≤ r.number → r.number ≤ 11 →
      (st : Statement) × (k : StatementKind) × (E : Term) × (f : Refusal) × Judging b n st k E
      × Refusing S (entries_of b.standing) k E f r.cost × (r ≡ by_judging f r.cost)
      × ((P : Term) (v : Option Term) (m : ℕ) → Derivation S (entries_of b.standing) k E P v m → ⊥)

  -- what gets as far as judging gets a verdict, or one of the refusals 7 to 12 at a cost within its budget
  abbrev pub Judged : Type 0
  Judged = (b c : State) (n : ℕ) (st : Statement) (k : StatementKind) (E : Term) (a : Answer) → Judging b n st k E → Step S b (submit n) a c →
      ((v : Verdict) × (a ≡ verdict v)) ⊎ ((r : Refused) × (a ≡ refused r None) × (7 ≤ r.number) × (r.number ≤ 12) × (r.cost ≤ n))

  -- a verdict has a name to enter just if its statement is a def or an axiom
  abbrev pub Named : Type 0
  Named = (b c : State) (n : ℕ) (v : Verdict) → Step S b (submit n) (verdict v) c → is_some v.name ≡ enters (Some v.kind)

-- numbers are told apart
abbrev pub Recognised : Type 0
Recognised = (t u : Token) → same_numbers t u ≡ true ↔ t ≡ u

pub record LawsUnder (S : System) : Type 0 where
  pub answered : Answered S
  pub settled : Settled S
  pub unsized : Unsized S
  pub unaltered : Unaltered S
  pub advanced : Advanced S
  pub bounded : Bounded S
  pub totalled : Totalled S
  pub grounded : Grounded S
  pub accepting : Accepting S
  pub right : Right S
  pub refusals : Refusals S
  pub judged : Judged S
  pub named : Named S
  -- a wider system alters no answer of a list that never met refusal 11, on a second book opened alike
  pub widening : (W : System) → Wider S W → (o : Opened) (xs : List Call) (ys zs : List Answer) (b c : State) →
      Run S (new o) xs ys b → Never11 ys → Run W (new o) xs zs c → (ys ≡ zs) × (b ≡ c)

abbrev pub Laws : Type 0
Laws = ((S : System) → LawsUnder S) × Recognised
