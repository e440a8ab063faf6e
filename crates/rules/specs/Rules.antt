-- The rules of types and of normal forms: a clause for each, with its premises in order.
use Rattle.std.specs.Prelude.{ℕ, ◌+◌, Bool, true, false, cond, List, [], ◌∷◌, Some, None, Option, ◌==◌}
use Rattle.std.specs.List.{slice_get}
use Rattle.term.specs.declared.node.Unary.{Unary}
use Rattle.term.specs.declared.node.Unary.TheVariants.{Fun, Fst, Snd, Inl, Inr}
use Rattle.term.specs.declared.node.Binary.{Binary}
use Rattle.term.specs.declared.node.Binary.TheVariants.{Pi, Sigma, Exists, Typed, App, Pair, Pack, Unpack, Sum, Ascribe, Let}
use Rattle.term.specs.Term.{Term, sort, local, entry, unary, binary, choice, cells, lift, lower, put}
use Rattle.term.specs.Forms.{code, code_two}
use Rattle.term.specs.Cells.{Bound, bindings}
use Rattle.rules.specs.declared.refusal.Reason.{Reason}
use Rattle.rules.specs.declared.refusal.Reason.TheVariants.{OtherForm, Escapes}

-- an entry: its type, and its value unless it is assumed
pub record Entry : Type 0 where
  pub type : Term
  pub value : Option Term

-- in a context, nearest binder first: a term has a type; it meets a given one; under the bindings
-- alone, and for the term at a place, it gives a normal form
pub data Judgement : Type 0 where
  has : List Bound → Term → Judgement
  meets : List Bound → Term → Term → Judgement
  gives : ℕ → List (Option Term) → Term → Judgement

-- what a sort system is asked: the sort above one, and the sort that joins two
pub data Question : Type 0 where
  above : ℕ → Question
  join : ℕ → ℕ → Question

-- what a rule goes through in order, each step with what follows from its result
pub data Premises : Type 0 where
  conclude : Term → Option Term → Premises
  refuse : Reason → Premises
  pay : ℕ → Premises → Premises
  ask : Question → (ℕ → Premises) → Premises
  premise : Judgement → (Term → Premises) → Premises
  same : Term → Term → Premises → Premises

abbrev pub gets : Term → Premises
gets t = conclude t None

-- goes on with what is there, else as said
abbrev pub on : {A : Type 0} → Option A → Premises → (A → Premises) → Premises
on None c f = c
on (Some x) c f = f x

-- goes on with what must be there: a local or an entry that is not, which no reading makes, counts
-- as one of another form
abbrev pub expect : {A : Type 0} → Option A → (A → Premises) → Premises
expect m f = on m (refuse OtherForm) f

-- the sort that a term is
abbrev pub as_sort : Term → Option ℕ
as_sort (sort p s) = Some s
as_sort (local p k) = None
as_sort (entry p j) = None
as_sort (unary p u E) = None
as_sort (binary p b E F) = None
as_sort (choice p E F G) = None

-- the part of a term of the form u
abbrev pub part : Unary → Term → Option Term
part u (sort p s) = None
part u (local p k) = None
part u (entry p j) = None
part u (unary p w E) = cond (code w == code u) (Some E) None
part u (binary p b E F) = None
part u (choice p E F G) = None

-- the parts of a term of the form b
abbrev pub parts : Binary → Term → Option (Term × Term)
parts b (sort p s) = None
parts b (local p k) = None
parts b (entry p j) = None
parts b (unary p u E) = None
parts b (binary p w E F) = cond (code_two w == code_two b) (Some (E, F)) None
parts b (choice p E F G) = None

-- lifting and putting in cost the cells of what they make; lowering too, and it can fail
abbrev pub lifting : ℕ → Term → (Term → Premises) → Premises
lifting n t f = pay (cells (lift n 0 t)) (f (lift n 0 t))

abbrev pub putting : List Term → Term → (Term → Premises) → Premises
putting vs t f = pay (cells (put vs 0 t)) (f (put vs 0 t))

abbrev pub lowering : ℕ → Term → (Term → Premises) → Premises
lowering n t f = on (lower n 0 t) (refuse Escapes) (λ u. pay (cells u) (f u))

-- a binder stepped under costs 1: with its type and perhaps a binding, or, for normal forms, with none
abbrev pub under : List Bound → Term → Option Term → (List Bound → Premises) → Premises
under Γ P v f = pay 1 (f (record { type = P; value = v } ∷ Γ))

abbrev pub inside : List (Option Term) → (List (Option Term) → Premises) → Premises
inside Δ f = pay 1 (f (None ∷ Δ))

-- E has a sort; E has a type of the form b
abbrev pub has_a_sort : List Bound → Term → (ℕ → Premises) → Premises
has_a_sort Γ E f = premise (has Γ E) (λ S. expect (as_sort S) f)

abbrev pub has_parts : List Bound → Binary → Term → (Term × Term → Premises) → Premises
has_parts Γ b E f = premise (has Γ E) (λ S. expect (parts b S) f)

-- the form, for the term at p, of Q with E put in
abbrev pub form_with : ℕ → List Bound → Term → Term → (Term → Premises) → Premises
form_with p Γ E Q f = putting (E ∷ []) Q (λ R. premise (gives p (bindings Γ) R) f)

-- the type of an arm under the type P of what it matches, without that binder
abbrev pub arm : List Bound → Term → Term → (Term → Premises) → Premises
arm Γ P E f = under Γ P None (λ Γ'. premise (has Γ' E) (λ R. lowering 1 R f))

abbrev pub has_sort : ℕ → ℕ → Premises
has_sort p s = ask (above s) (λ u. gets (sort p u))

abbrev pub has_local : List Bound → ℕ → Premises
has_local Γ k = expect (slice_get Γ k) (λ b. lifting (k + 1) b.type gets)

abbrev pub has_entry : List Entry → ℕ → Premises
has_entry es j = expect (slice_get es j) (λ e. gets e.type)

abbrev pub has_join : ℕ → ℕ → ℕ → Premises
has_join p s t = ask (join s t) (λ u. gets (sort p u))

-- the types with a binder
abbrev pub has_former : ℕ → List Bound → Term → Term → Premises
has_former p Γ A B =
    has_a_sort Γ A (λ s. premise (gives p (bindings Γ) A) (λ P.
    under Γ P None (λ Γ'. has_a_sort Γ' B (λ t. has_join p s t))))

abbrev pub has_sum : ℕ → List Bound → Term → Term → Premises
has_sum p Γ A B = has_a_sort Γ A (λ s. has_a_sort Γ B (λ t. has_join p s t))

abbrev pub has_typed : ℕ → List Bound → Term → Term → Premises
has_typed p Γ T E =
    has_a_sort Γ T (λ s. premise (gives p (bindings Γ) T) (λ P.
    under Γ P None (λ Γ'. premise (has Γ' E) (λ Q. gets (binary p Pi P Q)))))

abbrev pub has_app : ℕ → List Bound → Term → Term → Premises
has_app p Γ E F =
    has_parts Γ Pi E (λ x. premise (meets Γ F x.0) (λ _. form_with p Γ F x.1 gets))

abbrev pub has_first : List Bound → Term → Premises
has_first Γ E = has_parts Γ Sigma E (λ x. gets x.0)

abbrev pub has_second : ℕ → List Bound → Term → Premises
has_second p Γ E = has_parts Γ Sigma E (λ x. form_with p Γ (unary p Fst E) x.1 gets)

abbrev pub has_unpack : List Bound → Term → Term → Premises
has_unpack Γ E F =
    has_parts Γ Exists E (λ x. under Γ x.0 None (λ Γ'. under Γ' x.1 None (λ Γ''.
    premise (has Γ'' F) (λ R. lowering 2 R gets))))

abbrev pub has_let : ℕ → List Bound → Term → Term → Premises
has_let p Γ E F =
    premise (has Γ E) (λ P. premise (gives p (bindings Γ) E) (λ v.
    under Γ P (Some v) (λ Γ'. premise (has Γ' F) (λ Q. lowering 1 Q gets))))

-- an ascription by a sort as it stands, or by a type
abbrev pub has_sorted : List Bound → Term → Term → Premises
has_sorted Γ E T = premise (meets Γ E T) (λ _. gets T)

abbrev pub has_ascribed : ℕ → List Bound → Term → Term → Premises
has_ascribed p Γ E T =
    has_a_sort Γ T (λ s. premise (gives p (bindings Γ) T) (λ P. premise (meets Γ E P) (λ _. gets P)))

abbrev pub has_ascription : ℕ → List Bound → Term → Term → Premises
has_ascription p Γ E T = on (as_sort T) (has_ascribed p Γ E T) (λ s. has_sorted Γ E T)

abbrev pub has_match : List Bound → Term → Term → Term → Premises
has_match Γ E F G =
    has_parts Γ Sum E (λ x. arm Γ x.0 F (λ R. arm Γ x.1 G (λ S. same R S (gets R))))

-- five forms have no rule that infers their type
abbrev pub has_one : ℕ → List Bound → Unary → Term → Option Premises
has_one p Γ Fun E = None
has_one p Γ Fst E = Some (has_first Γ E)
has_one p Γ Snd E = Some (has_second p Γ E)
has_one p Γ Inl E = None
has_one p Γ Inr E = None

abbrev pub has_two : ℕ → List Bound → Binary → Term → Term → Option Premises
has_two p Γ Pi A B = Some (has_former p Γ A B)
has_two p Γ Sigma A B = Some (has_former p Γ A B)
has_two p Γ Exists A B = Some (has_former p Γ A B)
has_two p Γ Typed T E = Some (has_typed p Γ T E)
has_two p Γ App E F = Some (has_app p Γ E F)
has_two p Γ Pair E F = None
has_two p Γ Pack E F = None
has_two p Γ Unpack E F = Some (has_unpack Γ E F)
has_two p Γ Sum A B = Some (has_sum p Γ A B)
has_two p Γ Ascribe E T = Some (has_ascription p Γ E T)
has_two p Γ Let E F = Some (has_let p Γ E F)

abbrev pub has_rule : List Entry → List Bound → Term → Option Premises
has_rule es Γ (sort p s) = Some (has_sort p s)
has_rule es Γ (local p k) = Some (has_local Γ k)
has_rule es Γ (entry p j) = Some (has_entry es j)
has_rule es Γ (unary p u E) = has_one p Γ u E
has_rule es Γ (binary p b E F) = has_two p Γ b E F
has_rule es Γ (choice p E F G) = Some (has_match Γ E F G)

-- a function meets a Pi; a pair meets a Sigma and a pack an Exists; an injection meets a sum
abbrev pub meets_fun : List Bound → Term → Term → Premises
meets_fun Γ E S =
    expect (parts Pi S) (λ x. under Γ x.0 None (λ Γ'. premise (meets Γ' E x.1) (λ _. gets S)))

abbrev pub meets_pair : Binary → ℕ → List Bound → Term → Term → Term → Premises
meets_pair b p Γ E F S =
    expect (parts b S) (λ x. premise (meets Γ E x.0) (λ _.
    form_with p Γ E x.1 (λ R. premise (meets Γ F R) (λ _. gets S))))

abbrev pub meets_left : List Bound → Term → Term → Premises
meets_left Γ E S = expect (parts Sum S) (λ x. premise (meets Γ E x.0) (λ _. gets S))

abbrev pub meets_right : List Bound → Term → Term → Premises
meets_right Γ E S = expect (parts Sum S) (λ x. premise (meets Γ E x.1) (λ _. gets S))

-- any other form meets a type by having an equal one
abbrev pub meets_equal : List Bound → Term → Term → Premises
meets_equal Γ E S = premise (has Γ E) (λ Q. same Q S (gets S))

abbrev pub meets_one : List Bound → Term → Unary → Term → Term → Premises
meets_one Γ T Fun E S = meets_fun Γ E S
meets_one Γ T Fst E S = meets_equal Γ T S
meets_one Γ T Snd E S = meets_equal Γ T S
meets_one Γ T Inl E S = meets_left Γ E S
meets_one Γ T Inr E S = meets_right Γ E S

abbrev pub meets_two : ℕ → List Bound → Term → Binary → Term → Term → Term → Premises
meets_two p Γ T Pi E F S = meets_equal Γ T S
meets_two p Γ T Sigma E F S = meets_equal Γ T S
meets_two p Γ T Exists E F S = meets_equal Γ T S
meets_two p Γ T Typed E F S = meets_equal Γ T S
meets_two p Γ T App E F S = meets_equal Γ T S
meets_two p Γ T Pair E F S = meets_pair Sigma p Γ E F S
meets_two p Γ T Pack E F S = meets_pair Exists p Γ E F S
meets_two p Γ T Unpack E F S = meets_equal Γ T S
meets_two p Γ T Sum E F S = meets_equal Γ T S
meets_two p Γ T Ascribe E F S = meets_equal Γ T S
meets_two p Γ T Let E F S = meets_equal Γ T S

abbrev pub meets_rule : List Bound → Term → Term → Premises
meets_rule Γ (sort p s) S = meets_equal Γ (sort p s) S
meets_rule Γ (local p k) S = meets_equal Γ (local p k) S
meets_rule Γ (entry p j) S = meets_equal Γ (entry p j) S
meets_rule Γ (unary p u E) S = meets_one Γ (unary p u E) u E S
meets_rule Γ (binary p b E F) S = meets_two p Γ (binary p b E F) b E F S
meets_rule Γ (choice p E F G) S = meets_equal Γ (choice p E F G) S

-- neutral are unbound locals, assumed entries, and of normal forms these that are kept over a neutral
abbrev pub neutral_one : Unary → Bool
neutral_one Fun = false
neutral_one Fst = true
neutral_one Snd = true
neutral_one Inl = false
neutral_one Inr = false

abbrev pub neutral_two : Binary → Bool
neutral_two Pi = false
neutral_two Sigma = false
neutral_two Exists = false
neutral_two Typed = false
neutral_two App = true
neutral_two Pair = false
neutral_two Pack = false
neutral_two Unpack = true
neutral_two Sum = false
neutral_two Ascribe = false
neutral_two Let = false

abbrev pub no_value : Option Term → Bool
no_value None = true
no_value (Some v) = false

abbrev pub unbound : Option (Option Term) → Bool
unbound None = false
unbound (Some v) = no_value v

abbrev pub assumed : Option Entry → Bool
assumed None = false
assumed (Some e) = no_value e.value

abbrev pub neutral : List Entry → List (Option Term) → Term → Bool
neutral es Δ (sort p s) = false
neutral es Δ (local p k) = unbound (slice_get Δ k)
neutral es Δ (entry p j) = assumed (slice_get es j)
neutral es Δ (unary p u E) = neutral_one u
neutral es Δ (binary p b E F) = neutral_two b
neutral es Δ (choice p E F G) = true

-- a neutral t keeps its form, as c says
abbrev pub kept : List Entry → List (Option Term) → Term → Premises → Premises
kept es Δ t c = cond (neutral es Δ t) c (refuse OtherForm)

-- the local k and the entry j, which are E
abbrev pub gives_local : List (Option Term) → ℕ → Term → Premises
gives_local Δ k E = expect (slice_get Δ k) (λ b. on b (gets E) (λ v. lifting (k + 1) v gets))

abbrev pub gives_entry : List Entry → ℕ → Term → Premises
gives_entry es j E = expect (slice_get es j) (λ e. on e.value (gets E) gets)

-- a function: its body's form; types with a binder; types, pairs and packs without one; injections
abbrev pub gives_fun : ℕ → List (Option Term) → Term → Premises
gives_fun p Δ E = inside Δ (λ Δ'. premise (gives p Δ' E) (λ v. gets (unary p Fun v)))

abbrev pub gives_under : ℕ → List (Option Term) → Binary → Term → Term → Premises
gives_under p Δ b A B =
    premise (gives p Δ A) (λ P. inside Δ (λ Δ'. premise (gives p Δ' B) (λ Q. gets (binary p b P Q))))

abbrev pub gives_beside : ℕ → List (Option Term) → Binary → Term → Term → Premises
gives_beside p Δ b E F = premise (gives p Δ E) (λ v. premise (gives p Δ F) (λ w. gets (binary p b v w)))

abbrev pub gives_wrap : ℕ → List (Option Term) → Unary → Term → Premises
gives_wrap p Δ u E = premise (gives p Δ E) (λ v. gets (unary p u v))

-- the form of E with vs put in
abbrev pub gives_filled : ℕ → List (Option Term) → List Term → Term → Premises
gives_filled p Δ vs E = putting vs E (λ r. premise (gives p Δ r) gets)

-- a form f used on a form v
abbrev pub gives_use : List Entry → ℕ → List (Option Term) → Term → Term → Premises
gives_use es p Δ f v =
    on (part Fun f) (kept es Δ f (gets (binary p App f v))) (λ b. gives_filled p Δ (v ∷ []) b)

abbrev pub gives_app : List Entry → ℕ → List (Option Term) → Term → Term → Premises
gives_app es p Δ E F = premise (gives p Δ E) (λ f. premise (gives p Δ F) (λ v. gives_use es p Δ f v))

abbrev pub gives_let : ℕ → List (Option Term) → Term → Term → Premises
gives_let p Δ E F = premise (gives p Δ E) (λ v. gives_filled p Δ (v ∷ []) F)

abbrev pub gives_first : List Entry → ℕ → List (Option Term) → Term → Premises
gives_first es p Δ E =
    premise (gives p Δ E) (λ v. on (parts Pair v) (kept es Δ v (gets (unary p Fst v))) (λ x. gets x.0))

abbrev pub gives_second : List Entry → ℕ → List (Option Term) → Term → Premises
gives_second es p Δ E =
    premise (gives p Δ E) (λ v. on (parts Pair v) (kept es Δ v (gets (unary p Snd v))) (λ x. gets x.1))

-- the body F of an unpack: kept under two binders, or with both parts put in, the second nearer
abbrev pub gives_deep : ℕ → List (Option Term) → Term → Term → Premises
gives_deep p Δ v F =
    inside Δ (λ Δ'. inside Δ' (λ Δ''. premise (gives p Δ'' F) (λ w. gets (binary p Unpack v w))))

abbrev pub gives_open : List Entry → ℕ → List (Option Term) → Term → Term → Premises
gives_open es p Δ v F =
    on (parts Pack v) (kept es Δ v (gives_deep p Δ v F)) (λ x. gives_filled p Δ (x.1 ∷ (x.0 ∷ [])) F)

abbrev pub gives_unpack : List Entry → ℕ → List (Option Term) → Term → Term → Premises
gives_unpack es p Δ E F = premise (gives p Δ E) (λ v. gives_open es p Δ v F)

-- the arms F and G of a match: both kept, or one with the part put in
abbrev pub gives_arms : ℕ → List (Option Term) → Term → Term → Term → Premises
gives_arms p Δ v F G =
    inside Δ (λ Δ'. premise (gives p Δ' F) (λ x. inside Δ (λ Δ''. premise (gives p Δ'' G) (λ y. gets (choice p v x y)))))

abbrev pub gives_right : List Entry → ℕ → List (Option Term) → Term → Term → Term → Premises
gives_right es p Δ v F G =
    on (part Inr v) (kept es Δ v (gives_arms p Δ v F G)) (λ b. gives_filled p Δ (b ∷ []) G)

abbrev pub gives_pick : List Entry → ℕ → List (Option Term) → Term → Term → Term → Premises
gives_pick es p Δ v F G =
    on (part Inl v) (gives_right es p Δ v F G) (λ a. gives_filled p Δ (a ∷ []) F)

abbrev pub gives_match : List Entry → ℕ → List (Option Term) → Term → Term → Term → Premises
gives_match es p Δ E F G = premise (gives p Δ E) (λ v. gives_pick es p Δ v F G)

abbrev pub gives_one : List Entry → ℕ → List (Option Term) → Unary → Term → Premises
gives_one es p Δ Fun E = gives_fun p Δ E
gives_one es p Δ Fst E = gives_first es p Δ E
gives_one es p Δ Snd E = gives_second es p Δ E
gives_one es p Δ Inl E = gives_wrap p Δ Inl E
gives_one es p Δ Inr E = gives_wrap p Δ Inr E

abbrev pub gives_two : List Entry → ℕ → List (Option Term) → Binary → Term → Term → Premises
gives_two es p Δ Pi A B = gives_under p Δ Pi A B
gives_two es p Δ Sigma A B = gives_under p Δ Sigma A B
gives_two es p Δ Exists A B = gives_under p Δ Exists A B
gives_two es p Δ Typed T E = gives_fun p Δ E
gives_two es p Δ App E F = gives_app es p Δ E F
gives_two es p Δ Pair E F = gives_beside p Δ Pair E F
gives_two es p Δ Pack E F = gives_beside p Δ Pack E F
gives_two es p Δ Unpack E F = gives_unpack es p Δ E F
gives_two es p Δ Sum A B = gives_beside p Δ Sum A B
gives_two es p Δ Ascribe E T = premise (gives p Δ E) gets
gives_two es p Δ Let E F = gives_let p Δ E F

abbrev pub gives_rule : List Entry → ℕ → List (Option Term) → Term → Premises
gives_rule es p Δ (sort q s) = gets (sort q s)
gives_rule es p Δ (local q k) = gives_local Δ k (local q k)
gives_rule es p Δ (entry q j) = gives_entry es j (entry q j)
gives_rule es p Δ (unary q u E) = gives_one es p Δ u E
gives_rule es p Δ (binary q b E F) = gives_two es p Δ b E F
gives_rule es p Δ (choice q E F G) = gives_match es p Δ E F G

-- the rule of a judgement, if there is one
unfoldable pub rule : List Entry → Judgement → Option Premises
rule es (has Γ E) = has_rule es Γ E
rule es (meets Γ E S) = Some (meets_rule Γ E S)
rule es (gives p Δ E) = Some (gives_rule es p Δ E)
