-- The printed text of a term.
use Rattle.std.specs.Prelude.{◌≡◌, ℕ, zero, suc, ◌+◌, ◌-◌, ◌^◌, ◌<◌, ◌≤◌, Bool, true, not, List, [], ◌∷◌, ◌++◌, length, None, codes, decimal, slice_index, slice_index_or}
use Rattle.std.specs.Char.{is_ascii_alphabetic}
use Rattle.std.specs.List.{AllByRecursion}
use Rattle.script.specs.Tokens.{reserved, word_byte}
use Rattle.term.specs.declared.node.Unary.TheVariants.{Fun, Fst, Snd, Inl, Inr}
use Rattle.term.specs.declared.node.Binary.TheVariants.{Pi, Sigma, Exists, Typed, App, Pair, Pack, Unpack, Sum, Ascribe, Let}
use Rattle.term.specs.Forms.{binds, binds_last}
use Rattle.term.specs.Term.{Term, sort, local, entry, unary, binary, choice}
use Rattle.grammar.specs.Grammar.{Name}

-- the name of the binder with d binders outside it
abbrev pub binder_name : ℕ → Name
binder_name d = codes "_" ++ decimal d

-- the names of d binders, the nearest first
abbrev pub binder_names : ℕ → List Name
binder_names zero = []
binder_names (suc d) = binder_name d ∷ binder_names d

abbrev pub sort_text : ℕ → List ℕ
sort_text zero = codes "Type"
sort_text (suc zero) = codes "Kind"
sort_text (suc (suc n)) = codes "Sort " ++ decimal (suc (suc n))

abbrev pub headed_text : List ℕ → List ℕ → List ℕ
headed_text head E = codes "(" ++ head ++ codes " " ++ E ++ codes ")"

abbrev pub quantified_text : List ℕ → ℕ → List ℕ → List ℕ → List ℕ
quantified_text word d A B = codes "(" ++ word ++ codes " (" ++ binder_name d ++ codes " : " ++ A ++ codes "), " ++ B ++ codes ")"

abbrev pub joined_text : List ℕ → List ℕ → List ℕ → List ℕ
joined_text between E F = codes "(" ++ E ++ between ++ F ++ codes ")"

module _ (entries : List Name) where
  -- under d binders
  abbrev pub text : ℕ → Term → List ℕ
  text d (sort p s) = sort_text s
  text d (local p k) = binder_name (d - suc k)
  text d (entry p j) = slice_index_or entries j []
  text d (unary p Fun E) = codes "(fun " ++ binder_name d ++ codes " => " ++ text (suc d) E ++ codes ")"
  text d (unary p Fst E) = headed_text (codes "fst") (text d E)
  text d (unary p Snd E) = headed_text (codes "snd") (text d E)
  text d (unary p Inl E) = headed_text (codes "inl") (text d E)
  text d (unary p Inr E) = headed_text (codes "inr") (text d E)
  text d (binary p Pi A B) = quantified_text (codes "Pi") d (text d A) (text (suc d) B)
  text d (binary p Sigma A B) = quantified_text (codes "Sigma") d (text d A) (text (suc d) B)
  text d (binary p Exists A B) = quantified_text (codes "exists") d (text d A) (text (suc d) B)
  text d (binary p Typed T E) =
      codes "(fun (" ++ binder_name d ++ codes " : " ++ text d T ++ codes ") => " ++ text (suc d) E ++ codes ")"
  text d (binary p App E F) = joined_text (codes " ") (text d E) (text d F)
  text d (binary p Pair E F) = joined_text (codes ", ") (text d E) (text d F)
  text d (binary p Pack E F) = codes "{" ++ text d E ++ codes ", " ++ text d F ++ codes "}"
  text d (binary p Unpack E F) =
      codes "(let {" ++ binder_name d ++ codes ", " ++ binder_name (suc d) ++ codes "} := " ++ text d E
      ++ codes " in " ++ text (suc (suc d)) F ++ codes ")"
  text d (binary p Sum A B) = joined_text (codes " + ") (text d A) (text d B)
  text d (binary p Ascribe E T) = joined_text (codes " : ") (text d E) (text d T)
  text d (binary p Let E F) =
      codes "(let " ++ binder_name d ++ codes " := " ++ text d E ++ codes " in " ++ text (suc d) F ++ codes ")"
  text d (choice p E F G) =
      codes "(match " ++ text d E ++ codes " with | inl " ++ binder_name d ++ codes " => " ++ text (suc d) F
      ++ codes " | inr " ++ binder_name d ++ codes " => " ++ text (suc d) G ++ codes " end)"

-- a letter, then letters, digits, `_` or `'`, at most 64 bytes, and no reserved word
pub record GoodName (x : Name) : Type 0 where
  pub letter_first : is_ascii_alphabetic (slice_index x 0) ≡ true
  pub word_bytes : AllByRecursion (λ b. word_byte b ≡ true) x
  pub short : length x ≤ 64
  pub free : reserved x ≡ None

pub record GoodNames (entries : List Name) : Type 0 where
  pub good : (j : ℕ) → j < length entries → GoodName (slice_index_or entries j [])
  pub distinct : (i j : ℕ) → i < length entries → j < length entries → slice_index_or entries i [] ≡ slice_index_or entries j [] → i ≡ j

-- under d binders: fewer than 2^64 binders nest, sorts are numbered to 65,535, locals are bound, and
-- entries are among the first m
abbrev pub Printable : ℕ → ℕ → Term → Type 0
Printable m d (sort p s) = (d < 2 ^ 64) × (s ≤ 65535)
Printable m d (local p k) = (d < 2 ^ 64) × (k < d)
Printable m d (entry p j) = (d < 2 ^ 64) × (j < m)
Printable m d (unary p u E) = Printable m (binds u + d) E
Printable m d (binary p b E F) = Printable m d E × Printable m (binds_last b + d) F
Printable m d (choice p E F G) = Printable m d E × Printable m (1 + d) F × Printable m (1 + d) G

-- the bytes begin with none that goes on with a word
abbrev pub quiet : List ℕ → Bool
quiet [] = true
quiet (b ∷ bs) = not (word_byte b)
