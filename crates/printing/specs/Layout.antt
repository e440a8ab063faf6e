-- The text of a term by the parts of its forms: what stands before, between and after them.
use Rattle.std.specs.Prelude.{ℕ, zero, suc, ◌+◌, List, [], ◌++◌, map, codes}
use Rattle.script.specs.declared.statement.Span.{Span}
use Rattle.script.specs.Names.{bytes_at}
use Rattle.term.specs.declared.node.Unary.{Unary}
use Rattle.term.specs.declared.node.Unary.TheVariants.{Fun, Fst, Snd, Inl, Inr}
use Rattle.term.specs.declared.node.Binary.{Binary}
use Rattle.term.specs.declared.node.Binary.TheVariants.{Pi, Sigma, Exists, Typed, App, Pair, Pack, Unpack, Sum, Ascribe, Let}
use Rattle.term.specs.Forms.{binds, binds_last}
use Rattle.printing.specs.declared.lead.Lead.{Lead}
use Rattle.printing.specs.declared.forms.Arm.{Arm}
use Rattle.printing.specs.declared.forms.Arm.TheVariants as arm
use Rattle.term.specs.Term.{Term}
use Rattle.grammar.specs.Grammar.{Name}
use Rattle.grammar.specs.Text.{binder_name, text}

-- the names that stand in the script at these places
abbrev pub names_of : List ℕ → List Span → List Name
names_of script spans = map (λ s. bytes_at script s.at s.len) spans

-- the text of a term under d binders
unfoldable pub shown : List Name → ℕ → Term → List ℕ
shown entries d t = text entries d t

-- the names of a form's binders under d others
abbrev pub names_text : ℕ → ℕ → List ℕ
names_text zero d = []
names_text (suc zero) d = binder_name d
names_text (suc (suc n)) d = binder_name d ++ (codes ", " ++ binder_name (suc d))

-- what leads to a part: how it opens, the names of so many binders, what follows them, and how many
-- more binders the part stands under
pub record Piece : Type 0 where
  pub opening : List ℕ
  pub names : ℕ
  pub bound : List ℕ
  pub under : ℕ

abbrev pub piece_of : Lead → Piece
piece_of l = record { opening = l.opening.now; names = l.names; bound = l.bound.now; under = l.under }

abbrev pub lead_text : Piece → ℕ → List ℕ
lead_text q d = q.opening ++ (names_text q.names d ++ q.bound)

-- what leads to a part, and the part
abbrev pub part_text : Piece → List Name → ℕ → Term → List ℕ
part_text q entries d t = lead_text q d ++ shown entries (q.under + d) t

abbrev pub one_opens : Unary → List ℕ
one_opens Fun = codes "(fun "
one_opens Fst = codes "(fst "
one_opens Snd = codes "(snd "
one_opens Inl = codes "(inl "
one_opens Inr = codes "(inr "

abbrev pub one_bound : Unary → List ℕ
one_bound Fun = codes " => "
one_bound Fst = []
one_bound Snd = []
one_bound Inl = []
one_bound Inr = []

abbrev pub two_opens : Binary → List ℕ
two_opens Pi = codes "(Pi ("
two_opens Sigma = codes "(Sigma ("
two_opens Exists = codes "(exists ("
two_opens Typed = codes "(fun ("
two_opens App = codes "("
two_opens Pair = codes "("
two_opens Pack = codes "{"
two_opens Unpack = codes "(let {"
two_opens Sum = codes "("
two_opens Ascribe = codes "("
two_opens Let = codes "(let "

abbrev pub two_bound : Binary → List ℕ
two_bound Pi = codes " : "
two_bound Sigma = codes " : "
two_bound Exists = codes " : "
two_bound Typed = codes " : "
two_bound App = []
two_bound Pair = []
two_bound Pack = []
two_bound Unpack = codes "} := "
two_bound Sum = []
two_bound Ascribe = []
two_bound Let = codes " := "

abbrev pub two_link : Binary → List ℕ
two_link Pi = codes "), "
two_link Sigma = codes "), "
two_link Exists = codes "), "
two_link Typed = codes ") => "
two_link App = codes " "
two_link Pair = codes ", "
two_link Pack = codes ", "
two_link Unpack = codes " in "
two_link Sum = codes " + "
two_link Ascribe = codes " : "
two_link Let = codes " in "

abbrev pub two_closes : Binary → List ℕ
two_closes Pi = codes ")"
two_closes Sigma = codes ")"
two_closes Exists = codes ")"
two_closes Typed = codes ")"
two_closes App = codes ")"
two_closes Pair = codes ")"
two_closes Pack = codes "}"
two_closes Unpack = codes ")"
two_closes Sum = codes ")"
two_closes Ascribe = codes ")"
two_closes Let = codes ")"

abbrev pub arm_opens : Arm → List ℕ
arm_opens arm.Inl = codes " | inl "
arm_opens arm.Inr = codes " | inr "

abbrev pub one_piece : Unary → Piece
one_piece u = record { opening = one_opens u; names = binds u; bound = one_bound u; under = binds u }

abbrev pub first_piece : Binary → Piece
first_piece b = record { opening = two_opens b; names = binds_last b; bound = two_bound b; under = 0 }

abbrev pub second_piece : Binary → Piece
second_piece b = record { opening = two_link b; names = 0; bound = []; under = binds_last b }

abbrev pub match_piece : Piece
match_piece = record { opening = codes "(match "; names = 0; bound = []; under = 0 }

abbrev pub arm_piece : Arm → Piece
arm_piece a = record { opening = arm_opens a; names = 1; bound = codes " => "; under = 1 }
