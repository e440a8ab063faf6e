-- What the functions of the parser do: by steps of the grammar they lead from one state of reading to
-- another, or end in a refusal.
use Rattle.std.specs.Prelude.{◌≡◌, ℕ, ◌+◌, ◌*◌, ◌<◌, ◌≤◌, Bool, true, false, cond, List, [], ◌∷◌, ◌++◌, length, take, Some, None, Ok, Err, vec_items, vec_len, Option, Result}
use Rattle.script.specs.declared.statement.Span.{Span}
use Rattle.script.specs.declared.token.Mark.{Mark}
use Rattle.script.specs.declared.token.Mark.TheVariants.{Colon, Becomes, Comma, ClosesBrace, Bar, EndWord, Opens, OpensBrace, MatchWord, Arrow, InWord}
use Rattle.term.specs.declared.arena.Arena.{Arena}
use Rattle.term.specs.declared.node.Node.{Node}
use Rattle.term.specs.Cells.{form, reach, high}
use Rattle.term.specs.declared.node.Binary.{Binary}
use Rattle.term.specs.declared.node.Binary.TheVariants.{Pi, Ascribe, Pack, Unpack}
use Rattle.term.specs.State.{term, cells_in, Kept, Added}
use Rattle.term.specs.Term.{Term, binary, place}
use Rattle.grammar.specs.Words.{Word}
use Rattle.grammar.specs.Grammar.{Name, is, past, here, next_name, next_number, Sign, expr, sums, production, Steps, give, refuse, meant, find, find_entry, misfit, next, part, eat, binder, typed, arm, bracketed, matches, Reading, tree, refusal, Follows}
use Rattle.syntax.specs.declared.ahead.Ahead.{Ahead}
use Rattle.syntax.specs.declared.scope.Scope.{Scope}
use Rattle.syntax.specs.declared.parser.Parser.{Parser}
use Rattle.syntax.specs.declared.fault.SyntaxFault.{SyntaxFault}
use Rattle.syntax.specs.declared.fault.SyntaxFault.TheVariants.{Misfit, UnknownName}
use Rattle.syntax.specs.Faults.{fault_number, fault_place}
use Rattle.syntax.specs.Look.{text, left, span_bytes, name_bytes, Looks}
use Rattle.syntax.specs.Scopes.{opened, entry_names}

-- a state of reading: the words to come, the names of the entries, the open binders and the cells
pub record Now : Type 0 where
  pub ahead : Ahead
  pub entered : List Span
  pub scope : Scope
  pub arena : Arena

abbrev pub at : Ahead → List Span → Scope → Arena → Now
at r es s a = record { ahead = r; entered = es; scope = s; arena = a }

abbrev pub now : Parser → Now
now p = at p.words p.entries.now p.scope.now p.arena.now

-- a parser still has the open binders and the cells that were lent to it
pub record HoldsSame (p q : Parser) : Type 0 where
  pub scope : q.scope.ghost_name ≡ p.scope.ghost_name
  pub arena : q.arena.ghost_name ≡ p.arena.ghost_name

abbrev pub words_left : Now → List Word
words_left x = left x.ahead

-- the names of the open binders, the nearest first, and of the entries
abbrev pub binders : Now → List Name
binders x = opened (text x.ahead) (vec_items x.scope.names)

abbrev pub entries : Now → List Name
entries x = entry_names (text x.ahead) x.entered

-- the place where the statement ends
abbrev pub end : Now → ℕ
end x = x.ahead.end

-- the same script, entries, binders and budget, all older trees, no more words, and at most two cells for each
-- word that was passed: in both, c is left over
pub record Moves (c : ℕ) (x y : Now) : Type 0 where
  pub text : text y.ahead ≡ text x.ahead
  pub end : y.ahead.end ≡ x.ahead.end
  pub entered : y.entered ≡ x.entered
  pub names : vec_items y.scope.names ≡ vec_items x.scope.names
  pub count : vec_len y.scope.names ≡ vec_len x.scope.names
  pub kept : Kept x.arena y.arena
  pub budget : y.arena.left ≡ x.arena.left
  pub words : 2 * length (words_left y) + c ≤ 2 * length (words_left x)
  pub cells : cells_in y.arena + 2 * length (words_left y) + c ≤ cells_in x.arena + 2 * length (words_left x)

-- what is read from y by the steps q is read from x by p
pub record Leads (c : ℕ) (x y : Now) (p q : Steps) : Type 0 where
  pub moves : Moves c x y
  pub leads : (z : Reading) → Follows (entries x) (end x) q (words_left y) z → Follows (entries x) (end x) p (words_left x) z

-- a cell has the tree that is read
pub record Gave (c : ℕ) (x y : Now) (p : Steps) (i : ℕ) : Type 0 where
  pub moves : Moves c x y
  pub within : i < cells_in y.arena
  pub follows : Follows (entries x) (end x) p (words_left x) (tree (term y.arena i) (words_left y))

-- the reading is refused
pub record Stopped (x y : Now) (p : Steps) (e : SyntaxFault) : Type 0 where
  pub moves : Moves 0 x y
  pub follows : Follows (entries x) (end x) p (words_left x) (refusal (fault_number e) (fault_place e))

abbrev pub Found : ℕ → Now → Now → Steps → Result ℕ SyntaxFault → Type 0
Found c x y p (Ok i) = Gave c x y p i
Found c x y p (Err e) = Stopped x y p e

pub record Parsed (c : ℕ) (x y : Now) (p : Steps) (r : Result ℕ SyntaxFault) : Type 0 where
  pub found : Found c x y p r

-- the next word is this mark, and is passed then
pub record Eats (m : Mark) (r r' : Ahead) (b : Bool) : Type 0 where
  pub same : text r' ≡ text r
  pub end : r'.end ≡ r.end
  pub test : b ≡ is m (left r)
  pub rest : left r' ≡ cond b (past (left r)) (left r)

-- the next word is a name, and is passed then
abbrev pub Names : Ahead → Ahead → Option Span → Type 0
Names r r' = Looks (λ o. name_bytes (text r) o ≡ next_name (left r)) r r'

-- the next word is a number, and is passed then
abbrev pub Numbers : Ahead → Ahead → Option ℕ → Type 0
Numbers r r' = Looks (λ o. o ≡ next_number (left r)) r r'

-- a value was looked for, or what stands there does not fit
abbrev pub Fitting : {V : Type 0} → Ahead → (V → Type 0) → Type 0 → Result V SyntaxFault → Type 0
Fitting r P Q (Ok v) = P v
Fitting r P Q (Err e) = Q × (e ≡ Misfit (here r.end (left r)))

pub record Fits {V : Type 0} (r : Ahead) (P : V → Type 0) (Q : Type 0) (t : Result V SyntaxFault) : Type 0 where
  pub fits : Fitting r P Q t

abbrev pub Expects : Mark → Ahead → Ahead → Result (Unit {0}) SyntaxFault → Type 0
Expects m r r' = Fits r (λ _. Eats m r r' true) (Eats m r r' false)

abbrev pub Calls : Ahead → Ahead → Result Span SyntaxFault → Type 0
Calls r r' = Fits r (λ n. Names r r' (Some n)) (Names r r' None)

abbrev pub Counts : Ahead → Ahead → Result ℕ SyntaxFault → Type 0
Counts r r' = Fits r (λ n. Numbers r r' (Some n)) (Numbers r r' None)

-- "(" x ":" A ")" was read, before any steps f
abbrev pub TypedBinderFound : Now → Now → Result (Span × ℕ) SyntaxFault → Type 0
TypedBinderFound x y (Ok v) =
    (v.1 < cells_in y.arena)
    × ((f : Name → Term → Steps) → Leads 1 x y (typed (binders x) f) (f (span_bytes (text x.ahead) v.0) (term y.arena v.1)))
TypedBinderFound x y (Err e) = (f : Name → Term → Steps) → Stopped x y (typed (binders x) f) e

pub record TypedBinder (x y : Now) (t : Result (Span × ℕ) SyntaxFault) : Type 0 where
  pub found : TypedBinderFound x y t

-- a term was read by the steps p, before any steps f
abbrev pub TermFound : (List Name → (Term → Steps) → Steps) → Now → Now → Result ℕ SyntaxFault → Type 0
TermFound p x y (Ok i) = (i < cells_in y.arena) × ((f : Term → Steps) → Leads 1 x y (p (binders x) f) (f (term y.arena i)))
TermFound p x y (Err e) = (f : Term → Steps) → Stopped x y (p (binders x) f) e

pub record ReadsTerm (p : List Name → (Term → Steps) → Steps) (x y : Now) (t : Result ℕ SyntaxFault) : Type 0 where
  pub found : TermFound p x y t

-- [":" T] ":=" E
abbrev pub valued : List Name → (Term → Steps) → Steps
valued sc f =
    next Colon (part expr sc (λ T. eat Becomes (part expr sc (λ E. f (binary (place T) Ascribe E T)))))
    (eat Becomes (part expr sc f))

abbrev pub Valued : Now → Now → Result ℕ SyntaxFault → Type 0
Valued = ReadsTerm valued

-- x "," y "}"
abbrev pub two_names : (Name → Name → Steps) → Steps
two_names f = binder (λ x. eat Comma (binder (λ y. eat ClosesBrace (f x y))))

abbrev pub TwoNamesFound : Now → Now → Result (Span × Span) SyntaxFault → Type 0
TwoNamesFound x y (Ok v) = (f : Name → Name → Steps) → Leads 1 x y (two_names f) (f (span_bytes (text x.ahead) v.0) (span_bytes (text x.ahead) v.1))
TwoNamesFound x y (Err e) = (f : Name → Name → Steps) → Stopped x y (two_names f) e

pub record TwoNames (x y : Now) (t : Result (Span × Span) SyntaxFault) : Type 0 where
  pub found : TwoNamesFound x y t

-- x "=>" F "|" m y "=>" G "end"
abbrev pub two_arms : Mark → List Name → (Term → Term → Steps) → Steps
two_arms m sc f = arm sc (λ F. eat Bar (eat m (arm sc (λ G. eat EndWord (f F G)))))

abbrev pub TwoArmsFound : Mark → Now → Now → Result (ℕ × ℕ) SyntaxFault → Type 0
TwoArmsFound m x y (Ok v) =
    (v.0 < cells_in y.arena) × (v.1 < cells_in y.arena)
    × ((f : Term → Term → Steps) → Leads 1 x y (two_arms m (binders x) f) (f (term y.arena v.0) (term y.arena v.1)))
TwoArmsFound m x y (Err e) = (f : Term → Term → Steps) → Stopped x y (two_arms m (binders x) f) e

pub record TwoArms (m : Mark) (x y : Now) (t : Result (ℕ × ℕ) SyntaxFault) : Type 0 where
  pub found : TwoArmsFound m x y t

-- x "=>" F
abbrev pub AnArm : Now → Now → Result ℕ SyntaxFault → Type 0
AnArm = ReadsTerm arm

-- parts of productions that are functions of their own
abbrev pub bound_steps : ℕ → Binary → Mark → List Name → Steps
bound_steps p q m sc = typed sc (λ x A. eat m (part expr (x ∷ sc) (λ B. give (binary p q A B))))

abbrev pub arrow_steps : List Name → Steps
arrow_steps sc = part sums sc (λ A. next Arrow (part expr ([] ∷ sc) (λ B. give (binary (place A) Pi A B))) (give A))

-- F, then the bracket, beside an E that was read
abbrev pub closing_steps : ℕ → Binary → Mark → Term → List Name → Steps
closing_steps p q m E sc = part expr sc (λ F. eat m (give (binary p q E F)))

abbrev pub pack_steps : ℕ → List Name → Steps
pack_steps p sc = part expr sc (λ E. eat Comma (closing_steps p Pack ClosesBrace E sc))

abbrev pub unpack_steps : ℕ → List Name → Steps
unpack_steps p sc =
    two_names (λ x y. eat Becomes (part expr sc (λ E. eat InWord (part expr (y ∷ x ∷ sc) (λ b. give (binary p Unpack E b))))))

abbrev pub bracket_steps : ℕ → List Name → Steps
bracket_steps p sc =
    next Opens (bracketed sc p)
    (next OpensBrace (pack_steps p sc)
    (next MatchWord (matches sc p) misfit))

-- names that stand before the open binders, as the script spells them
abbrev pub under : (List ℕ → List Name) → Now → List Name
under pre x = pre (text x.ahead) ++ binders x

abbrev pub no_names : List ℕ → List Name
no_names s = []

abbrev pub one_name : Span → List ℕ → List Name
one_name n s = span_bytes s n ∷ []

abbrev pub both_names : Span → Span → List ℕ → List Name
both_names far near s = span_bytes s near ∷ (span_bytes s far ∷ [])

-- read as a sign of the grammar, under more names, or by the steps of a production
abbrev pub AsUnder : (List ℕ → List Name) → ℕ → Sign → Now → Now → Result ℕ SyntaxFault → Type 0
AsUnder pre c g x y t = Parsed c x y (production (entries x) (end x) g (under pre x) (words_left x)) t

abbrev pub AsSign : ℕ → Sign → Now → Now → Result ℕ SyntaxFault → Type 0
AsSign = AsUnder no_names

abbrev pub AsSteps : ℕ → (List Name → Steps) → Now → Now → Result ℕ SyntaxFault → Type 0
AsSteps c f x y t = Parsed c x y (f (binders x)) t

-- a cell can be made, and this many binders opened, beside those that the words to come need
abbrev pub HasRoomForCell : Now → Type 0
HasRoomForCell x = cells_in x.arena + x.arena.left + 2 * length (words_left x) < x.arena.limit

abbrev pub HasRoomForNames : ℕ → Now → Type 0
HasRoomForNames n x = vec_len x.scope.names + length (words_left x) + n ≤ 4000

-- a cell more, for this node
pub record Adds (x y : Now) (node : Node) (i : ℕ) : Type 0 where
  pub same : y ≡ at x.ahead x.entered x.scope y.arena
  pub added : Added x.arena y.arena node i

-- a binder more, the nearest
pub record OpensBinder (n : Span) (x y : Now) : Type 0 where
  pub same : y ≡ at x.ahead x.entered y.scope x.arena
  pub names : vec_items y.scope.names ≡ vec_items x.scope.names ++ n ∷ []

-- the binders are the first ones again
pub record ClosesBinders (was : ℕ) (x y : Now) : Type 0 where
  pub same : y ≡ at x.ahead x.entered y.scope x.arena
  pub names : vec_items y.scope.names ≡ take was (vec_items x.scope.names)

-- what a name means: the cell to be made, or that nothing has it
abbrev pub Means : Now → ℕ → Span → Result Node SyntaxFault → Type 0
Means x p n (Ok node) =
    (reach node ≡ 0) × (high node < 4000)
    × ((f : ℕ → Term) → meant (find (span_bytes (text x.ahead) n) (binders x)) (find_entry (span_bytes (text x.ahead) n) (entries x)) p ≡ give (form node f))
Means x p n (Err e) =
    (meant (find (span_bytes (text x.ahead) n) (binders x)) (find_entry (span_bytes (text x.ahead) n) (entries x)) p ≡ refuse 4 p) × (e ≡ UnknownName p)
