-- The text of a tree by the parts of its form.
use Rattle.std.proofs.Common.{◌≡◌, ℕ, suc, ◌+◌, ◌-◌, List, [], ◌++◌, get_or, codes, sym, ap, ◌∙◌, ap₂, append_assoc, zero-add, one-add, arith}
use Rattle.term.specs.declared.arena.Arena.{Arena}
use Rattle.term.specs.declared.node.Node.TheVariants.{Sort, Local, Entry, One, Two, Match}
use Rattle.term.specs.declared.node.Unary.{Unary}
use Rattle.term.specs.declared.node.Unary.TheVariants.{Fun, Fst, Snd, Inl, Inr}
use Rattle.term.specs.declared.node.Binary.{Binary}
use Rattle.term.specs.declared.node.Binary.TheVariants.{Pi, Sigma, Exists, Typed, App, Pair, Pack, Unpack, Sum, Ascribe, Let}
use Rattle.term.specs.Forms.{binds, binds_last}
use Rattle.term.specs.Term.{Term, unary, binary, choice}
use Rattle.term.specs.State.{term, Read}
use Rattle.grammar.specs.Grammar.{Name}
use Rattle.grammar.specs.Text.{binder_name, sort_text, text}
use Rattle.printing.specs.Layout.{shown, Piece, lead_text, part_text, two_closes, one_piece, first_piece, second_piece, match_piece, arm_piece}
use Rattle.printing.specs.declared.forms.Arm.TheVariants as arm

two_add : (d : ℕ) → 2 + d ≡ suc (suc d)
two_add d = omega arith

one_grouped : (a n b E c : List ℕ) → a ++ n ++ b ++ E ++ c ≡ a ++ (n ++ b) ++ E ++ c
one_grouped a n b E c = simp append_assoc

bound_grouped : (a n b E l F c : List ℕ) → a ++ n ++ b ++ E ++ l ++ F ++ c ≡ a ++ (n ++ b) ++ E ++ (l ++ F ++ c)
bound_grouped a n b E l F c = simp append_assoc

unpack_grouped : (a n m o b E l F c : List ℕ) → a ++ n ++ m ++ o ++ b ++ E ++ l ++ F ++ c ≡ a ++ ((n ++ (m ++ o)) ++ b) ++ E ++ (l ++ F ++ c)
unpack_grouped a n m o b E l F c = simp append_assoc

match_grouped : (a E w u n b F v G c : List ℕ) → a ++ E ++ (w ++ u) ++ n ++ b ++ F ++ v ++ n ++ b ++ G ++ c ≡ a ++ E ++ (w ++ (u ++ (n ++ b) ++ F ++ (v ++ (n ++ b) ++ G ++ c)))
match_grouped a E w u n b F v G c = simp append_assoc

-- the text of a form by the texts of its parts
abbrev one_form : ℕ → Unary → List ℕ → List ℕ
one_form d u E = lead_text (one_piece u) d ++ E ++ codes ")"

abbrev two_form : ℕ → Binary → List ℕ → List ℕ → List ℕ
two_form d b E F = lead_text (first_piece b) d ++ E ++ (lead_text (second_piece b) d ++ F ++ two_closes b)

abbrev match_form : ℕ → List ℕ → List ℕ → List ℕ → List ℕ
match_form d E F G =
    lead_text match_piece d ++ E ++ (codes " with" ++ (lead_text (arm_piece arm.Inl) d ++ F ++ (lead_text (arm_piece arm.Inr) d ++ G ++ codes " end)")))

module _ (es : List Name) (d : ℕ) where
  deep_none : (E : Term) → text es d E ≡ shown es (0 + d) E
  unfolding shown
  deep_none E = ap (λ m. text es m E) (sym (zero-add d))

  deep_one : (E : Term) → text es (suc d) E ≡ shown es (1 + d) E
  unfolding shown
  deep_one E = ap (λ m. text es m E) (sym (one-add d))

  deep_two : (E : Term) → text es (suc (suc d)) E ≡ shown es (2 + d) E
  unfolding shown
  deep_two E = ap (λ m. text es m E) (sym (two_add d))

  -- one binder stands over the second part
  bound_shown : (a b l : List ℕ) (E F : Term) → a ++ binder_name d ++ b ++ text es d E ++ l ++ text es (suc d) F ++ codes ")" ≡ a ++ (binder_name d ++ b) ++ shown es (0 + d) E ++ (l ++ shown es (1 + d) F ++ codes ")")
  bound_shown a b l E F =
      bound_grouped a (binder_name d) b (text es d E) l (text es (suc d) F) (codes ")")
      ∙ ap₂ (λ x y. a ++ (binder_name d ++ b) ++ x ++ (l ++ y ++ codes ")")) (deep_none E) (deep_one F)

  -- no binder stands over the second part
  free_shown : (a l c : List ℕ) (E F : Term) → a ++ text es d E ++ l ++ text es d F ++ c ≡ a ++ shown es (0 + d) E ++ (l ++ shown es (0 + d) F ++ c)
  free_shown a l c E F = ap₂ (λ x y. a ++ x ++ l ++ y ++ c) (deep_none E) (deep_none F) ∙ simp append_assoc

  one_shown : (p : ℕ) (u : Unary) (E : Term) → shown es d (unary p u E) ≡ one_form d u (shown es (binds u + d) E)
  unfolding shown
  one_shown p Fun E =
      one_grouped (codes "(fun ") (binder_name d) (codes " => ") (text es (suc d) E) (codes ")") ∙ ap (one_form d Fun) (deep_one E)
  one_shown p Fst E = ap (one_form d Fst) (deep_none E)
  one_shown p Snd E = ap (one_form d Snd) (deep_none E)
  one_shown p Inl E = ap (one_form d Inl) (deep_none E)
  one_shown p Inr E = ap (one_form d Inr) (deep_none E)

  two_shown : (p : ℕ) (b : Binary) (E F : Term) → shown es d (binary p b E F) ≡ two_form d b (shown es (0 + d) E) (shown es (binds_last b + d) F)
  unfolding shown
  two_shown p Pi E F = bound_shown (codes "(Pi (") (codes " : ") (codes "), ") E F
  two_shown p Sigma E F = bound_shown (codes "(Sigma (") (codes " : ") (codes "), ") E F
  two_shown p Exists E F = bound_shown (codes "(exists (") (codes " : ") (codes "), ") E F
  two_shown p Typed E F = bound_shown (codes "(fun (") (codes " : ") (codes ") => ") E F
  two_shown p App E F = free_shown (codes "(") (codes " ") (codes ")") E F
  two_shown p Pair E F = free_shown (codes "(") (codes ", ") (codes ")") E F
  two_shown p Pack E F = free_shown (codes "{") (codes ", ") (codes "}") E F
  two_shown p Unpack E F =
      unpack_grouped (codes "(let {") (binder_name d) (codes ", ") (binder_name (suc d)) (codes "} := ") (text es d E) (codes " in ") (text es (suc (suc d)) F) (codes ")")
      ∙ ap₂ (two_form d Unpack) (deep_none E) (deep_two F)
  two_shown p Sum E F = free_shown (codes "(") (codes " + ") (codes ")") E F
  two_shown p Ascribe E F = free_shown (codes "(") (codes " : ") (codes ")") E F
  two_shown p Let E F = bound_shown (codes "(let ") (codes " := ") (codes " in ") E F

  match_shown : (p : ℕ) (E F G : Term) → shown es d (choice p E F G) ≡ match_form d (shown es (0 + d) E) (shown es (1 + d) F) (shown es (1 + d) G)
  unfolding shown
  match_shown p E F G =
      match_grouped (codes "(match ") (text es d E) (codes " with") (codes " | inl ") (binder_name d) (codes " => ") (text es (suc d) F) (codes " | inr ") (text es (suc d) G) (codes " end)")
      ∙ ap (λ t. match_form d t (text es (suc d) F) (text es (suc d) G)) (deep_none E)
      ∙ ap₂ (match_form d (shown es (0 + d) E)) (deep_one F) (deep_one G)

module _ (es : List Name) (d : ℕ) {a : Arena} {id : ℕ} where
  pub sort_is : {p s : ℕ} → Read a id (Sort p s) → shown es d (term a id) ≡ sort_text s
  unfolding shown
  sort_is r = ap (shown es d) r.is

  pub local_is : {p k : ℕ} → Read a id (Local p k) → (m : ℕ) → m ≡ d - (k + 1) → shown es d (term a id) ≡ binder_name m
  unfolding shown
  local_is {p} {k} r m e =
      let f : d - suc k ≡ m = omega arith in
      ap (shown es d) r.is ∙ ap binder_name f

  pub entry_is : {p j : ℕ} → Read a id (Entry p j) → (name : List ℕ) → name ≡ get_or es j [] → shown es d (term a id) ≡ name
  unfolding shown
  entry_is r name e = ap (shown es d) r.is ∙ sym e

  pub one_is : {p x : ℕ} {u : Unary} → Read a id (One p u x) → (q : Piece) → q ≡ one_piece u → shown es d (term a id) ≡ part_text q es d (term a x) ++ codes ")"
  one_is {p} {x} {u} r q e =
      ap (shown es d) r.is ∙ one_shown es d p u (term a x) ∙ ap (λ w. part_text w es d (term a x) ++ codes ")") (sym e)

  pub two_is : {p x y : ℕ} {b : Binary} → Read a id (Two p b x y) → (q s : Piece) (k : List ℕ) → q ≡ first_piece b → s ≡ second_piece b → k ≡ two_closes b → shown es d (term a id) ≡ part_text q es d (term a x) ++ (part_text s es d (term a y) ++ k)
  two_is {p} {x} {y} {b} r q s k e f g =
      ap (shown es d) r.is ∙ two_shown es d p b (term a x) (term a y)
      ∙ ap (λ w. part_text w es d (term a x) ++ (part_text (second_piece b) es d (term a y) ++ two_closes b)) (sym e)
      ∙ ap₂ (λ w v. part_text q es d (term a x) ++ (part_text w es d (term a y) ++ v)) (sym f) (sym g)

  pub match_is : {p x y z : ℕ} → Read a id (Match p x y z) → (q s t : Piece) → q ≡ match_piece → s ≡ arm_piece arm.Inl → t ≡ arm_piece arm.Inr → shown es d (term a id) ≡ part_text q es d (term a x) ++ (codes " with" ++ (part_text s es d (term a y) ++ (part_text t es d (term a z) ++ codes " end)")))
  match_is {p} {x} {y} {z} r q s t e f g =
      ap (shown es d) r.is ∙ match_shown es d p (term a x) (term a y) (term a z)
      ∙ ap (λ w. part_text w es d (term a x) ++ (codes " with" ++ (part_text (arm_piece arm.Inl) es d (term a y) ++ (part_text (arm_piece arm.Inr) es d (term a z) ++ codes " end)")))) (sym e)
      ∙ ap₂ (λ w v. part_text q es d (term a x) ++ (codes " with" ++ (part_text w es d (term a y) ++ (part_text v es d (term a z) ++ codes " end)")))) (sym f) (sym g)
