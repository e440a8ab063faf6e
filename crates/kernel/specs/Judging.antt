-- What judging a statement comes to, and how it leaves the arena.
use Rattle.std.specs.Prelude.{◌≡◌, ℕ, ◌+◌, ◌<◌, ◌≤◌, true, List, is_ok, Ok, Err, Option, Result, MatchResult}
use Rattle.term.specs.declared.arena.Arena.{Arena}
use Rattle.term.specs.declared.node.Stored.{Stored}
use Rattle.term.specs.Term.{Term, cells}
use Rattle.term.specs.Cells.{bound, over}
use Rattle.term.specs.Layout.{cells_of}
use Rattle.term.specs.State.{cells_in, term, ctx, Kept}
use Rattle.rules.specs.declared.refusal.Refusal.{Refusal}
use Rattle.script.specs.declared.statement.StatementKind.{StatementKind}
use Rattle.rules.specs.Rules.{Entry, Premises}
use Rattle.rules.specs.Derivation.{System, Spot}
use Rattle.rules.specs.Statement.{Derivation, Refusing, Overrun}
use Rattle.normal.specs.Runs.{Outcome, Goes}
use Rattle.kernel.specs.declared.fault.Fault.{Fault}
use Rattle.kernel.specs.declared.fault.Fault.TheVariants.{Spent, Refused}
use Rattle.kernel.specs.Faults.{faulted}

-- a type and perhaps a value stand right above the mark, and nothing else; what lies below is as it was
pub record Stands (a b : Arena) (mark : ℕ) (s : Stored) : Type 0 where
  pub limit : b.limit ≡ a.limit
  pub len : cells_in b ≡ mark + (cells (term b s.kind) + cells_of (bound s.value (term b)))
  pub low : s.kind < cells_in b
  pub low_value : over s.value ≤ cells_in b
  pub trees : (k : ℕ) → k < mark → term b k ≡ term a k
  pub chains : (o : Option ℕ) → over o ≤ mark → ctx b o ≡ ctx a o

-- nothing stands above the mark, and what lies below is as it was
pub record Restored (a b : Arena) (mark : ℕ) : Type 0 where
  pub limit : b.limit ≡ a.limit
  pub len : cells_in b ≡ mark
  pub trees : (k : ℕ) → k < mark → term b k ≡ term a k
  pub chains : (o : Option ℕ) → over o ≤ mark → ctx b o ≡ ctx a o

module _ (S : System) (es : List Entry) where
  -- premises were gone through to the end of a statement, or they have stopped
  abbrev pub Concluding : Spot → Premises → Arena → Arena → ℕ → Result Stored Fault → Type 0
  Concluding w c a b mark (Ok s) = Stands a b mark s × Goes S es w c (Outcome.done (term b s.kind) (bound s.value (term b))) a.left b.left
  Concluding w c a b mark (Err f) = Kept a b × Goes S es w c (faulted f) a.left b.left

  pub record Concludes (w : Spot) (c : Premises) (a b : Arena) (mark : ℕ) (r : Result Stored Fault) : Type 0 where
    pub made : Concluding w c a b mark r

  -- accepted: the type and value that stand there have a derivation, whose cost was taken from the budget
  pub record Accepted (k : StatementKind) (E : Term) (a b : Arena) (mark : ℕ) (s : Stored) : Type 0 where
    pub stands : Stands a b mark s
    pub cost : ℕ
    pub counted : a.left ≡ cost + b.left
    pub derived : Derivation S es k E (term b s.kind) (bound s.value (term b)) cost

  -- else the statement's count passes the budget, or it is refused at a cost that was taken from it
  abbrev pub Stopped : StatementKind → Term → Arena → Arena → Fault → Type 0
  Stopped k E a b Spent = Overrun S es k E a.left
  Stopped k E a b (Refused r) = (cost : ℕ) × (a.left ≡ cost + b.left) × Refusing S es k E r cost

  abbrev pub Judged : StatementKind → Term → Arena → Arena → ℕ → Result Stored Fault → Type 0
  Judged k E a b mark r = MatchResult r (Accepted k E a b mark) (λ f. Restored a b mark × Stopped k E a b f)

  -- and there is no other answer: what has a derivation within the budget is accepted, what is refused
  -- within it is refused so, and what passes it is spent
  abbrev pub Exact : StatementKind → Term → ℕ → Result Stored Fault → Type 0
  Exact k E b r =
      ((P : Term) (v : Option Term) (n : ℕ) → Derivation S es k E P v n → n ≤ b → is_ok r ≡ true)
      × ((x : Refusal) (n : ℕ) → Refusing S es k E x n → n ≤ b → r ≡ Err (Refused x))
      × (Overrun S es k E b → r ≡ Err Spent)
