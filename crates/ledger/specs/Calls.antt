-- Five calls on a book: their tests in order, their answers, and the state that each leaves.
use Rattle.std.specs.Prelude.{◌≡◌, ℕ, ◌+◌, ◌-◌, ◌*◌, ◌≤◌, Bool, cond, ◌&&◌, List, [], ◌∷◌, length, take, Some, None, Option, ◌==◌, nat_lt}
use Rattle.script.specs.declared.statement.Statement.{Statement}
use Rattle.script.specs.declared.statement.StatementKind.{StatementKind}
use Rattle.script.specs.declared.statement.StatementKind.TheVariants as word
use Rattle.script.specs.Statements.{enters}
use Rattle.term.specs.Term.{Term, cells}
use Rattle.rules.specs.declared.refusal.Layer.{Layer}
use Rattle.rules.specs.declared.refusal.Layer.TheVariants.{Reading, Typing, Book}
use Rattle.rules.specs.declared.refusal.Refusal.{Refusal}
use Rattle.rules.specs.Derivation.{System}
use Rattle.rules.specs.Numbers.{number}
use Rattle.rules.specs.Statement.{Derivation, Refusing, Overrun}
use Rattle.grammar.specs.Grammar.{tree, refusal}
use Rattle.ledger.specs.State.{Verdict, State, entries_of, next_at, ReadsAt, used, free, unsized, full, reach, pend, stand, charge, enter}

-- the plain numbers by which a verdict is handed in
pub record Token : Type 0 where
  pub at : ℕ
  pub kind : StatementKind
  pub type : ℕ
  pub value : Option ℕ
  pub cost : ℕ

abbrev pub token_of : Verdict → Token
token_of v = record { at = v.at; kind = v.kind; type = v.type_root; value = v.value_root; cost = v.cost }

abbrev pub kind_number : StatementKind → ℕ
kind_number word.Def = 0
kind_number word.Axiom = 1
kind_number word.Check = 2
kind_number word.Eval = 3

abbrev pub value_number : Option ℕ → ℕ
value_number None = 0
value_number (Some i) = i + 1

abbrev pub same_numbers : Token → Token → Bool
same_numbers t u =
    (t.at == u.at) && (kind_number t.kind == kind_number u.kind && (t.type == u.type && (value_number t.value == value_number u.value && t.cost == u.cost)))

pub data Call : Type 0 where
  submit : ℕ → Call
  skip : Call
  keep : Token → Call
  put_aside : Token → Call
  cut : ℕ → Call

-- a refusal's number, its place if it has one, what was counted by then, and where it arose
pub record Refused : Type 0 where
  pub number : ℕ
  pub at : Option ℕ
  pub cost : ℕ
  pub layer : Layer

-- a refusal hands back the verdict that the call handed in, if any
pub data Answer : Type 0 where
  accepted : Answer
  verdict : Verdict → Answer
  refused : Refused → Option Token → Answer

abbrev pub handed_in : Call → Option Token
handed_in (submit n) = None
handed_in skip = None
handed_in (keep t) = Some t
handed_in (put_aside t) = Some t
handed_in (cut k) = None

-- a refusal by the book has no place and no cost; one in reading has a place
abbrev pub by_book : ℕ → Refused
by_book k = record { number = k; at = None; cost = 0; layer = Book }

abbrev pub by_reading : ℕ → ℕ → Refused
by_reading k p = record { number = k; at = Some p; cost = 0; layer = Reading }

-- one of judging lies where its rule failed; a passed budget at the statement
abbrev pub by_judging : Refusal → ℕ → Refused
by_judging f n = record { number = number f.reason; at = Some f.place; cost = n; layer = f.layer }

abbrev pub by_budget : ℕ → ℕ → Refused
by_budget p n = record { number = 12; at = Some p; cost = n; layer = Typing }

-- what the tests of a call come to: a refusal and the place reached then, a statement to be read and
-- judged, or the next state
pub data Tested : Type 0 where
  stops : Refused → ℕ → Tested
  reads : Statement → Tested
  does : State → Tested

-- most refusals leave the place; 1 and 2 move to the statement's end
abbrev pub stay : State → ℕ → Tested
stay b k = stops (by_book k) b.at

abbrev pub pass : Statement → ℕ → ℕ → Tested
pass st k p = stops (by_reading k p) st.end

-- goes on with what is there, else as said
abbrev pub or_else : {A : Type 0} → Option A → Tested → (A → Tested) → Tested
or_else None t f = t
or_else (Some x) t f = f x

-- a lexeme that is no token is refused at its place
abbrev pub unless_wrong : Statement → Option ℕ → Tested → Tested
unless_wrong st None t = t
unless_wrong st (Some p) t = pass st 1 p

-- the tests of submit once a statement is found
abbrev pub submits : State → ℕ → Statement → Tested
submits b n st =
    cond (nat_lt 100000 n) (stay b 6)
    (unless_wrong st st.wrong
    (cond (nat_lt 4000 st.tokens) (pass st 2 st.at)
    (cond (enters st.kind && full b) (stay b 24)
    (cond (nat_lt (free b) (2 * st.tokens + n)) (stay b 23)
    (reads st)))))

abbrev pub none_pending : Option Verdict → State → Tested → Tested
none_pending None b t = t
none_pending (Some v) b t = stay b 20

abbrev pub next : State → (Statement → Tested) → Tested
next b f = or_else (next_at b.opened.script b.at) (stay b 22) f

-- goes on with the pending verdict, if the numbers handed in are its own
abbrev pub the_pending : State → Token → (Verdict → Tested) → Tested
the_pending b t f = or_else b.pending (stay b 21) (λ v. cond (same_numbers (token_of v) t) (f v) (stay b 21))

abbrev pub tests_of : State → Call → Tested
tests_of b (submit n) = none_pending b.pending b (next b (submits b n))
tests_of b skip = none_pending b.pending b (next b (λ st. does (reach st.end b)))
tests_of b (keep t) = the_pending b t (λ v. does (enter v b))
tests_of b (put_aside t) = the_pending b t (λ v. does (pend None b))
tests_of b (cut k) = none_pending b.pending b (cond (nat_lt (length b.standing) k) (stay b 25) (does (stand (take k b.standing) b)))

-- the tests of a call, in order: first of all the sizes that the book was opened with
unfoldable pub tests : State → Call → Tested
tests b x = cond (unsized b.opened) (stay b 13) (tests_of b x)

-- with the budget n the next statement, of kind k and about the term E, gets as far as judging
pub record Judging (b : State) (n : ℕ) (st : Statement) (k : StatementKind) (E : Term) : Type 0 where
  pub tested : tests b (submit n) ≡ reads st
  pub kind : st.kind ≡ Some k
  pub reading : ReadsAt b.opened.script b.standing b.at st (tree E [])

-- types and values are stored one after the other, above the used cells, each with its root last
abbrev pub root_after : ℕ → Option Term → Option ℕ
root_after n None = None
root_after n (Some v) = Some (n + cells v - 1)

abbrev pub verdict_on : State → Statement → StatementKind → Term → Option Term → ℕ → Verdict
verdict_on b st k P v m =
    record {
      at = st.at;
      kind = k;
      name = st.name;
      type = P;
      value = v;
      type_root = used b + cells P - 1;
      value_root = root_after (used b + cells P) v;
      cost = m;
    }

module _ (S : System) where
  -- in state b the call x has the answer a and leaves the state c
  pub data Step : State → Call → Answer → State → Type 0 where
    stopped : {b : State} {x : Call} {r : Refused} {p : ℕ} → tests b x ≡ stops r p →
        Step b x (refused r (handed_in x)) (reach p b)
    done : {b : State} {x : Call} {c : State} → tests b x ≡ does c → Step b x accepted c
    misread : {b : State} {n : ℕ} {st : Statement} {k p : ℕ} → tests b (submit n) ≡ reads st →
        ReadsAt b.opened.script b.standing b.at st (refusal k p) →
        Step b (submit n) (refused (by_reading k p) None) (reach st.end b)
    accepts : {b : State} {n : ℕ} {st : Statement} {k : StatementKind} {E P : Term} {v : Option Term} {m : ℕ} → Judging b n st k E →
        Derivation S (entries_of b.standing) k E P v m → m ≤ n →
        Step b (submit n) (verdict (verdict_on b st k P v m)) (charge m (pend (Some (verdict_on b st k P v m)) (reach st.end b)))
    refuses : {b : State} {n : ℕ} {st : Statement} {k : StatementKind} {E : Term} {f : Refusal} {m : ℕ} → Judging b n st k E →
        Refusing S (entries_of b.standing) k E f m → m ≤ n →
        Step b (submit n) (refused (by_judging f m) None) (charge m (reach st.end b))
    spends : {b : State} {n : ℕ} {st : Statement} {k : StatementKind} {E : Term} → Judging b n st k E →
        Overrun S (entries_of b.standing) k E n →
        Step b (submit n) (refused (by_budget st.at n) None) (charge n b)

  -- a list of calls, each where the last stopped, with their answers
  pub data Run : State → List Call → List Answer → State → Type 0 where
    rest : {b : State} → Run b [] [] b
    then : {b c d : State} {x : Call} {a : Answer} {xs : List Call} {ys : List Answer} → Step b x a c → Run c xs ys d → Run b (x ∷ xs) (a ∷ ys) d
