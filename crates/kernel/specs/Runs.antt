-- What a call of the code has shown of a judgement, of premises, or of the first of some premises.
use Rattle.std.specs.Prelude.{◌≡◌, ℕ, suc, ◌+◌, ◌<◌, ◌≤◌, max, List, IfOk, Some, None, Ok, Err, Option, Result, MatchResult}
use Rattle.term.specs.declared.arena.Arena.{Arena}
use Rattle.term.specs.declared.node.Binary.{Binary}
use Rattle.term.specs.declared.node.Unary.{Unary}
use Rattle.term.specs.declared.node.Unary.TheVariants.{Fun, Fst, Snd, Inl, Inr}
use Rattle.term.specs.declared.node.Binary.TheVariants.{Pi, Sigma, Exists, Typed, App, Pair, Pack, Unpack, Sum, Ascribe, Let}
use Rattle.term.specs.Term.{Term, sort, local, entry, unary, binary, choice}
use Rattle.term.specs.Cells.{Bound}
use Rattle.term.specs.State.{cells_in, term, Kept}
use Rattle.rules.specs.declared.refusal.Reason.TheVariants.{OtherForm}
use Rattle.rules.specs.Rules.{Judgement, Entry, Premises, parts, gets, meets_left, meets_right}
use Rattle.rules.specs.Derivation.{System, Spot, refusal}
use Rattle.normal.specs.declared.look.Side.{Side}
use Rattle.normal.specs.declared.look.Side.TheVariants.{First, Second}
use Rattle.normal.specs.declared.site.Site.{Site}
use Rattle.normal.specs.Views.{entries_at, context_at}
use Rattle.normal.specs.Runs.{Outcome, Ends, Goes}
use Rattle.kernel.specs.declared.fault.Fault.{Fault}
use Rattle.kernel.specs.declared.fault.Fault.TheVariants.{Refused}
use Rattle.kernel.specs.Faults.{typing, faulted}

abbrev pub outcome : Arena → Result ℕ Fault → Outcome
outcome b (Ok i) = Outcome.done (term b i) None
outcome b (Err f) = faulted f

-- a judgement was looked into
pub record Judges (S : System) (es : List Entry) (j : Judgement) (a b : Arena) (r : Result ℕ Fault) : Type 0 where
  pub kept : Kept a b
  pub fair : cells_in b + b.left ≤ cells_in a + a.left
  pub falls : b.left ≤ a.left
  pub within : IfOk r (λ i. i < cells_in b)
  pub went : Ends S es j (outcome b r) a.left b.left

-- premises were gone through, with one cell paid for before
pub record Ran (S : System) (es : List Entry) (w : Spot) (c : Premises) (a b : Arena) (r : Result ℕ Fault) : Type 0 where
  pub kept : Kept a b
  pub fair : cells_in b + b.left ≤ cells_in a + a.left + 1
  pub falls : b.left ≤ a.left
  pub within : IfOk r (λ i. i < cells_in b)
  pub went : Goes S es w c (outcome b r) a.left b.left

-- the first of some premises, C, were gone through: what comes of the rest comes of all of them, or
-- they have stopped already
abbrev pub Leading : {A X : Type 0} → System → List Entry → Spot → ((X → Premises) → Premises) → (A → X) → ℕ → ℕ → Result A Fault → Type 0
Leading S es w C v b m (Ok x) = (k : _ → Premises) (o : Outcome) (e : ℕ) → Goes S es w (k (v x)) o m e → Goes S es w (C k) o b e
Leading S es w C v b m (Err f) = (k : _ → Premises) → Goes S es w (C k) (faulted f) b m

-- their result stands for what v says, and refers to cells below its tip
pub record Leads {A X : Type 0} (S : System) (es : List Entry) (w : Spot) (C : (X → Premises) → Premises) (v : A → X) (tip : A → ℕ) (a b : Arena) (r : Result A Fault) : Type 0 where
  pub kept : Kept a b
  pub fair : cells_in b + b.left ≤ cells_in a + a.left
  pub falls : b.left ≤ a.left
  pub within : IfOk r (λ x. tip x ≤ cells_in b)
  pub went : Leading S es w C v a.left b.left r

-- the trees of two indices, and one past the higher
abbrev pub pair : Arena → ℕ × ℕ → Term × Term
pair a x = (term a x.0, term a x.1)

abbrev pub tips : ℕ × ℕ → ℕ
tips x = max (suc x.0) (suc x.1)

abbrev pub sorted : ℕ → ℕ
sorted s = s

abbrev pub none : ℕ → ℕ
none s = 0

-- a judgement was looked into, premises were gone through, and the first of some premises, at a site
abbrev pub JudgesAt : System → Site → (List Bound → Judgement) → Arena → Arena → Result ℕ Fault → Type 0
JudgesAt S s j a b r = Judges S (entries_at s a) (j (context_at s a)) a b r

abbrev pub Applies : System → Site → (List Entry → ℕ → List Bound → Premises) → Arena → Arena → Result ℕ Fault → Type 0
Applies S s c a b r = Ran S (entries_at s a) (typing s.place) (c (entries_at s a) s.place (context_at s a)) a b r

abbrev pub Begins : {A X : Type 0} → System → Site → (List Bound → (X → Premises) → Premises) → (A → X) → (A → ℕ) → Arena → Arena → Result A Fault → Type 0
Begins S s C v tip a b r = Leads S (entries_at s a) (typing s.place) (C (context_at s a)) v tip a b r

-- the sort s is the answer, for a term at p
abbrev pub sort_gets : ℕ → ℕ → Premises
sort_gets p s = gets (sort p s)

-- the parts of a term of the form b, else a refusal
abbrev pub Expects : Arena → ℕ → Binary → ℕ → Result (ℕ × ℕ) Fault → Type 0
Expects a p b i r =
    MatchResult r (λ x. (parts b (term a i) ≡ Some (pair a x)) × (tips x ≤ i))
    (λ f. (parts b (term a i) ≡ None) × (f ≡ Refused (refusal OtherForm (typing p))))

-- an injection meets its side of a sum
abbrev pub meets_side : Side → List Bound → Term → Term → Premises
meets_side First = meets_left
meets_side Second = meets_right

-- the place of a term whose type no rule infers
abbrev pub unruled_one : ℕ → Unary → Option ℕ
unruled_one p Fun = Some p
unruled_one p Fst = None
unruled_one p Snd = None
unruled_one p Inl = Some p
unruled_one p Inr = Some p

abbrev pub unruled_two : ℕ → Binary → Option ℕ
unruled_two p Pi = None
unruled_two p Sigma = None
unruled_two p Exists = None
unruled_two p Typed = None
unruled_two p App = None
unruled_two p Pair = Some p
unruled_two p Pack = Some p
unruled_two p Unpack = None
unruled_two p Sum = None
unruled_two p Ascribe = None
unruled_two p Let = None

abbrev pub unruled : Term → Option ℕ
unruled (sort p s) = None
unruled (local p k) = None
unruled (entry p j) = None
unruled (unary p u E) = unruled_one p u
unruled (binary p b E F) = unruled_two p b
unruled (choice p E F G) = None
