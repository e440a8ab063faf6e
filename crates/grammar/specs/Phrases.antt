-- The grammar alone, as a relation with a constructor for each production.
use Rattle.std.specs.Prelude.{◌≡◌, ℕ, true, false, List, [], ◌∷◌, Some, None}
use Rattle.script.specs.declared.token.Mark.{Mark}
use Rattle.script.specs.declared.token.Mark.TheVariants.{TypeWord, PropWord, KindWord, SortWord, Opens, OpensBrace, MatchWord, FstWord, SndWord, InlWord, InrWord, FunWord, PiWord, ForallWord, SigmaWord, ExistsWord, LetWord, Arrow, Plus, Times, Closes, ClosesBrace, Comma, Colon, Becomes, Maps, Bar, InWord, WithWord, EndWord}
use Rattle.term.specs.declared.node.Unary.TheVariants.{Fun, Fst, Snd, Inl, Inr}
use Rattle.term.specs.declared.node.Binary.TheVariants.{Pi, Sigma, Exists, Typed, App, Pair, Pack, Unpack, Sum, Ascribe, Let}
use Rattle.term.specs.Term.{Term, sort, local, entry, unary, binary, choice, place}
use Rattle.grammar.specs.Words.{Word}
use Rattle.grammar.specs.Grammar.{Name, Sign, expr, sums, products, application, atom, arguments, is, goes_on, next_name, next_number, past, here, find, find_entry, tree, Reads}

-- the first word is this mark, name or number, and the others are left
pub data Takes (m : Mark) : List Word → List Word → Type 0 where
  took : {a : List Word} → is m a ≡ true → Takes m a (past a)

pub data Calls (x : Name) : List Word → List Word → Type 0 where
  called : {a : List Word} → next_name a ≡ Some x → Calls x a (past a)

pub data Counts (n : ℕ) : List Word → List Word → Type 0 where
  counted : {a : List Word} → next_number a ≡ Some n → Counts n a (past a)

module _ (entries : List Name) (end : ℕ) where
  -- the words of a up to those of z are a phrase that means a term, under binders of these names
  pub data Phrase : Sign → List Name → List Word → List Word → Term → Type 0 where
    a_function : {sc : List Name} {x : Name} {a b c d z : List Word} {E : Term}
        → Takes FunWord a b → Calls x b c → Takes Maps c d → Phrase expr (x ∷ sc) d z E
        → Phrase expr sc a z (unary (here end a) Fun E)
    a_typed_function : {sc : List Name} {x : Name} {a b c d e f g h z : List Word} {T E : Term}
        → Takes FunWord a b → Takes Opens b c → Calls x c d → Takes Colon d e → Phrase expr sc e f T → Takes Closes f g
        → Takes Maps g h → Phrase expr (x ∷ sc) h z E → Phrase expr sc a z (binary (here end a) Typed T E)
    a_pi : {sc : List Name} {x : Name} {a b c d e f g h z : List Word} {A B : Term}
        → Takes PiWord a b → Takes Opens b c → Calls x c d → Takes Colon d e → Phrase expr sc e f A → Takes Closes f g
        → Takes Comma g h → Phrase expr (x ∷ sc) h z B → Phrase expr sc a z (binary (here end a) Pi A B)
    a_forall : {sc : List Name} {x : Name} {a b c d e f g h z : List Word} {A B : Term}
        → Takes ForallWord a b → Takes Opens b c → Calls x c d → Takes Colon d e → Phrase expr sc e f A
        → Takes Closes f g → Takes Comma g h → Phrase expr (x ∷ sc) h z B
        → Phrase expr sc a z (binary (here end a) Pi A B)
    a_sigma : {sc : List Name} {x : Name} {a b c d e f g h z : List Word} {A B : Term}
        → Takes SigmaWord a b → Takes Opens b c → Calls x c d → Takes Colon d e → Phrase expr sc e f A
        → Takes Closes f g → Takes Comma g h → Phrase expr (x ∷ sc) h z B
        → Phrase expr sc a z (binary (here end a) Sigma A B)
    an_exists : {sc : List Name} {x : Name} {a b c d e f g h z : List Word} {A B : Term}
        → Takes ExistsWord a b → Takes Opens b c → Calls x c d → Takes Colon d e → Phrase expr sc e f A
        → Takes Closes f g → Takes Comma g h → Phrase expr (x ∷ sc) h z B
        → Phrase expr sc a z (binary (here end a) Exists A B)
    a_let : {sc : List Name} {x : Name} {a b c d e f z : List Word} {E F : Term}
        → Takes LetWord a b → Calls x b c → Takes Becomes c d → Phrase expr sc d e E → Takes InWord e f
        → Phrase expr (x ∷ sc) f z F → Phrase expr sc a z (binary (here end a) Let E F)
    a_typed_let : {sc : List Name} {x : Name} {a b c d e f g h z : List Word} {T E F : Term}
        → Takes LetWord a b → Calls x b c → Takes Colon c d → Phrase expr sc d e T → Takes Becomes e f
        → Phrase expr sc f g E → Takes InWord g h → Phrase expr (x ∷ sc) h z F
        → Phrase expr sc a z (binary (here end a) Let (binary (place T) Ascribe E T) F)
    an_unpack : {sc : List Name} {x y : Name} {a b c d e f g h i j z : List Word} {E F : Term}
        → Takes LetWord a b → Takes OpensBrace b c → Calls x c d → Takes Comma d e → Calls y e f → Takes ClosesBrace f g
        → Takes Becomes g h → Phrase expr sc h i E → Takes InWord i j → Phrase expr (y ∷ x ∷ sc) j z F
        → Phrase expr sc a z (binary (here end a) Unpack E F)
    no_arrow : {sc : List Name} {a z : List Word} {A : Term} → Phrase sums sc a z A → Phrase expr sc a z A
    an_arrow : {sc : List Name} {a b c z : List Word} {A B : Term}
        → Phrase sums sc a b A → Takes Arrow b c → Phrase expr ([] ∷ sc) c z B
        → Phrase expr sc a z (binary (place A) Pi A B)
    no_plus : {sc : List Name} {a z : List Word} {A : Term} → Phrase products sc a z A → Phrase sums sc a z A
    a_sum : {sc : List Name} {a b c z : List Word} {A B : Term}
        → Phrase products sc a b A → Takes Plus b c → Phrase sums sc c z B
        → Phrase sums sc a z (binary (place A) Sum A B)
    no_times : {sc : List Name} {a z : List Word} {A : Term} → Phrase application sc a z A → Phrase products sc a z A
    a_product : {sc : List Name} {a b c z : List Word} {A B : Term}
        → Phrase application sc a b A → Takes Times b c → Phrase products ([] ∷ sc) c z B
        → Phrase products sc a z (binary (place A) Sigma A B)
    by_atom : {sc : List Name} {a b z : List Word} {E t : Term}
        → Phrase atom sc a b E → Phrase (arguments E) sc b z t → Phrase application sc a z t
    by_fst : {sc : List Name} {a b c z : List Word} {E t : Term}
        → Takes FstWord a b → Phrase atom sc b c E → Phrase (arguments (unary (here end a) Fst E)) sc c z t
        → Phrase application sc a z t
    by_snd : {sc : List Name} {a b c z : List Word} {E t : Term}
        → Takes SndWord a b → Phrase atom sc b c E → Phrase (arguments (unary (here end a) Snd E)) sc c z t
        → Phrase application sc a z t
    by_inl : {sc : List Name} {a b c z : List Word} {E t : Term}
        → Takes InlWord a b → Phrase atom sc b c E → Phrase (arguments (unary (here end a) Inl E)) sc c z t
        → Phrase application sc a z t
    by_inr : {sc : List Name} {a b c z : List Word} {E t : Term}
        → Takes InrWord a b → Phrase atom sc b c E → Phrase (arguments (unary (here end a) Inr E)) sc c z t
        → Phrase application sc a z t
    no_more : {sc : List Name} {a : List Word} {E : Term} → Phrase (arguments E) sc a a E
    one_more : {sc : List Name} {a b z : List Word} {E F t : Term}
        → Phrase atom sc a b F → Phrase (arguments (binary (place E) App E F)) sc b z t → Phrase (arguments E) sc a z t
    a_local : {sc : List Name} {x : Name} {a z : List Word} {k : ℕ}
        → Calls x a z → find x sc ≡ Some k → Phrase atom sc a z (local (here end a) k)
    an_entry : {sc : List Name} {x : Name} {a z : List Word} {j : ℕ}
        → Calls x a z → find x sc ≡ None → find_entry x entries ≡ Some j → Phrase atom sc a z (entry (here end a) j)
    a_type : {sc : List Name} {a z : List Word} → Takes TypeWord a z → Phrase atom sc a z (sort (here end a) 0)
    a_prop : {sc : List Name} {a z : List Word} → Takes PropWord a z → Phrase atom sc a z (sort (here end a) 0)
    a_kind : {sc : List Name} {a z : List Word} → Takes KindWord a z → Phrase atom sc a z (sort (here end a) 1)
    a_sort : {sc : List Name} {a b z : List Word} {n : ℕ} → Takes SortWord a b → Counts n b z
        → Phrase atom sc a z (sort (here end a) n)
    a_group : {sc : List Name} {a b c z : List Word} {E : Term}
        → Takes Opens a b → Phrase expr sc b c E → Takes Closes c z → Phrase atom sc a z E
    an_ascription : {sc : List Name} {a b c d e z : List Word} {E T : Term}
        → Takes Opens a b → Phrase expr sc b c E → Takes Colon c d → Phrase expr sc d e T → Takes Closes e z
        → Phrase atom sc a z (binary (here end a) Ascribe E T)
    a_pair : {sc : List Name} {a b c d e z : List Word} {E F : Term}
        → Takes Opens a b → Phrase expr sc b c E → Takes Comma c d → Phrase expr sc d e F → Takes Closes e z
        → Phrase atom sc a z (binary (here end a) Pair E F)
    a_pack : {sc : List Name} {a b c d e z : List Word} {E F : Term}
        → Takes OpensBrace a b → Phrase expr sc b c E → Takes Comma c d → Phrase expr sc d e F → Takes ClosesBrace e z
        → Phrase atom sc a z (binary (here end a) Pack E F)
    a_match : {sc : List Name} {x y : Name} {a b c d e f g h i j k l m n z : List Word} {E F G : Term}
        → Takes MatchWord a b → Phrase expr sc b c E → Takes WithWord c d → Takes Bar d e → Takes InlWord e f
        → Calls x f g → Takes Maps g h → Phrase expr (x ∷ sc) h i F → Takes Bar i j → Takes InrWord j k → Calls y k l
        → Takes Maps l m → Phrase expr (y ∷ sc) m n G → Takes EndWord n z
        → Phrase atom sc a z (choice (here end a) E F G)
    a_turned_match : {sc : List Name} {x y : Name} {a b c d e f g h i j k l m n z : List Word} {E F G : Term}
        → Takes MatchWord a b → Phrase expr sc b c E → Takes WithWord c d → Takes Bar d e → Takes InrWord e f
        → Calls y f g → Takes Maps g h → Phrase expr (y ∷ sc) h i G → Takes Bar i j → Takes InlWord j k → Calls x k l
        → Takes Maps l m → Phrase expr (x ∷ sc) m n F → Takes EndWord n z
        → Phrase atom sc a z (choice (here end a) E F G)

-- what is read is a phrase
abbrev pub ReadPhrases : Type 0
ReadPhrases =
    (entries : List Name) (end : ℕ) (g : Sign) (sc : List Name) (a z : List Word) (t : Term)
    → Reads entries end g sc a (tree t z) → Phrase entries end g sc a z t

-- and an expression that nothing goes on with is read
abbrev pub PhrasesRead : Type 0
PhrasesRead =
    (entries : List Name) (end : ℕ) (sc : List Name) (a z : List Word) (t : Term)
    → Phrase entries end expr sc a z t → goes_on z ≡ false
    → Reads entries end expr sc a (tree t z)
