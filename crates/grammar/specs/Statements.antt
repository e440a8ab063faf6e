-- What the words of one statement are read as. The list is the statement's words alone, and `end` is
-- the place where the statement ends.
use Rattle.std.specs.Prelude.{◌≡◌, ℕ, cond, List, [], ◌∷◌, Some, None, Option, slice_index}
use Rattle.std.specs.Char.{is_ascii_alphabetic}
use Rattle.script.specs.declared.token.Mark.TheVariants.{Colon, Becomes}
use Rattle.script.specs.declared.statement.StatementKind.{StatementKind}
use Rattle.script.specs.declared.statement.StatementKind.TheVariants.{Def, Axiom, Check, Eval}
use Rattle.script.specs.Statements.{kind_of_word}
use Rattle.term.specs.declared.node.Binary.TheVariants.{Ascribe}
use Rattle.term.specs.Term.{binary, place}
use Rattle.grammar.specs.Words.{Token, name, number, mark, first, no_token, Word}
use Rattle.grammar.specs.Grammar.{Name, expr, Steps, give, refuse, ending, next, part, eat, binder, find_entry, next_name, here, past, Reading, refusal, Follows}

-- what a statement does, by its first word
abbrev pub kind_in : Token → Option StatementKind
kind_in (name x) = None
kind_in (number n) = None
kind_in (mark m) = None
kind_in (first w) = Some (kind_of_word w)
kind_in no_token = None

abbrev pub kind_of : List Word → Option StatementKind
kind_of [] = None
kind_of (w ∷ ws) = kind_in w.token

-- the name that a def or an axiom enters, and its place
abbrev pub name_of : List Word → Option Name
name_of ws = next_name (past ws)

abbrev pub name_place : ℕ → List Word → ℕ
name_place end ws = here end (past ws)

abbrev pub unless_known : Option ℕ → ℕ → Steps → Steps
unless_known None p s = s
unless_known (Some j) p s = refuse 5 p

-- a name that begins with a letter and is not yet entered, at p
abbrev pub new_name : List Name → ℕ → Steps → Steps
new_name entries p s =
    binder (λ x. cond (is_ascii_alphabetic (slice_index x 0)) (unless_known (find_entry x entries) p s) (refuse 3 p))

-- x [":" T] ":=" E
abbrev pub defining : List Name → ℕ → Steps
defining entries p =
    new_name entries p (next Colon
    (part expr [] (λ T. eat Becomes (part expr [] (λ E. ending (give (binary (place T) Ascribe E T))))))
    (eat Becomes (part expr [] (λ E. ending (give E)))))

-- x ":" T
abbrev pub assuming : List Name → ℕ → Steps
assuming entries p = new_name entries p (eat Colon (part expr [] (λ T. ending (give T))))

-- E
abbrev pub judging : Steps
judging = part expr [] (λ E. ending (give E))

-- what a statement asks of the words after its first, its name at p
abbrev pub statement : StatementKind → List Name → ℕ → Steps
statement Def entries p = defining entries p
statement Axiom entries p = assuming entries p
statement Check entries p = judging
statement Eval entries p = judging

module _ (entries : List Name) (end : ℕ) where
  -- the words of a statement have this reading
  pub data States (ws : List Word) : Reading → Type 0 where
    of_kind : {k : StatementKind} {r : Reading} → kind_of ws ≡ Some k
        → Follows entries end (statement k entries (name_place end ws)) (past ws) r → States ws r
    of_none : kind_of ws ≡ None → States ws (refusal 3 (here end ws))

-- every statement has one reading
abbrev pub OneStatement : Type 0
OneStatement =
    (entries : List Name) (end : ℕ) (ws : List Word)
    → (r : Reading) × States entries end ws r × ((q : Reading) → States entries end ws q → q ≡ r)
