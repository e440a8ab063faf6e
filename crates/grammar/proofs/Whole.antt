-- A phrase that nothing goes on with is read.
use Rattle.std.proofs.Common.{◌≡◌, ℕ, ◌<◌, true, false, eqb, ltb, leb, List, sym, refl, subst, subst₂, arith, rules}
use Rattle.std.proofs.lemmas.Bool.{leb-true, ne_eqb, or_parts}
use Rattle.script.specs.declared.token.Mark.{Mark}
use Rattle.script.specs.declared.token.Mark.TheVariants.{OpensBrace, FstWord, SndWord, InlWord, InrWord, FunWord, PiWord, ForallWord, SigmaWord, ExistsWord, LetWord, Arrow, Plus, Times}
use Rattle.script.specs.Marks.{code}
use Rattle.term.specs.Term.{Term, local, entry}
use Rattle.grammar.specs.Words.{Word}
use Rattle.grammar.specs.Grammar.{Name, Sign, expr, sums, products, application, atom, arguments, Steps, next, a_name, meant, find_entry, here, is, begins, Reading, tree, Follows, Reads}
use Rattle.grammar.specs.Grammar.Follows.{given, passed, turned, named, nameless, numbered, parted}
use Rattle.grammar.specs.Phrases.{Takes, took, Calls, called, counted, Phrase, PhrasesRead}
use Rattle.grammar.specs.Phrases.Phrase.{a_function, a_typed_function, a_pi, a_forall, a_sigma, an_exists, a_let, a_typed_let, an_unpack, no_arrow, an_arrow, no_plus, a_sum, no_times, a_product}
use Rattle.grammar.specs.Phrases.Phrase.{by_atom, by_fst, by_snd, by_inl, by_inr, no_more, one_more, a_local, an_entry, a_type, a_prop, a_kind, a_sort, a_group, an_ascription, a_pair, a_pack, a_match, a_turned_match}
use Rattle.grammar.proofs.Atoms.{plain, no_arguments, argument}

differs : {m : Mark} {a b : List Word} → Takes m a b → (k : Mark) → eqb (code m) (code k) ≡ false → is k a ≡ false
differs (took e) k h = search rules

halts : {m : Mark} {a b : List Word} → Takes m a b → ltb (code m) 7 ≡ false → begins a ≡ false
halts (took e) h = grind arith

starts : {m : Mark} {a b : List Word} → Takes m a b → ltb (code m) 7 ≡ true → begins a ≡ true
starts (took e) h = grind arith

named_begins : {x : Name} {a b : List Word} → Calls x a b → begins a ≡ true
named_begins e = grind arith

called_not : {x : Name} {a b : List Word} → Calls x a b → (k : Mark) → is k a ≡ false
called_not e k = grind arith

-- nothing goes on with the sign
abbrev pub Stops : Sign → List Word → Type 0
Stops expr z = (begins z ≡ false) × (is Times z ≡ false) × (is Plus z ≡ false) × (is Arrow z ≡ false)
Stops sums z = (begins z ≡ false) × (is Times z ≡ false) × (is Plus z ≡ false)
Stops products z = (begins z ≡ false) × (is Times z ≡ false)
Stops application z = begins z ≡ false
Stops (arguments E) z = begins z ≡ false
Stops atom z = Unit {0}

pub stop : {m : Mark} {a b : List Word} → Takes m a b → leb 20 (code m) ≡ true → Stops expr a
stop i h = search rules

-- what a sign begins with
abbrev Low : Sign → List Word → Type 0
Low expr a = Unit {0}
Low sums a = (m : Mark) → leb 11 (code m) ≡ true → is m a ≡ false
Low products a = (m : Mark) → leb 11 (code m) ≡ true → is m a ≡ false
Low application a = (m : Mark) → leb 11 (code m) ≡ true → is m a ≡ false
Low (arguments E) a = Unit {0}
Low atom a = begins a ≡ true

head_low : {k : Mark} {a b : List Word} → Takes k a b → code k < 11 → (m : Mark) → leb 11 (code m) ≡ true → is m a ≡ false
head_low {k} i l m h = grind (arith, differs, ne_eqb, leb-true)

module _ (entries : List Name) (end : ℕ) where
  low : {g : Sign} {sc : List Name} {a z : List Word} {t : Term} → Phrase entries end g sc a z t → Low g a
  low (a_function i j k p) = tt
  low (a_typed_function i j k l p m n q) = tt
  low (a_pi i j k l p m n q) = tt
  low (a_forall i j k l p m n q) = tt
  low (a_sigma i j k l p m n q) = tt
  low (an_exists i j k l p m n q) = tt
  low (a_let i j k p l q) = tt
  low (a_typed_let i j k p l q m r) = tt
  low (an_unpack i j k l m n o p q r) = tt
  low (no_arrow p) = tt
  low (an_arrow p i q) = tt
  low (no_plus p) = low p
  low (a_sum p i q) = low p
  low (no_times p) = low p
  low (a_product p i q) = low p
  low (by_atom {a = a} p q) = grind (arith, low p)
  low (by_fst i p q) = head_low i (omega arith)
  low (by_snd i p q) = head_low i (omega arith)
  low (by_inl i p q) = head_low i (omega arith)
  low (by_inr i p q) = head_low i (omega arith)
  low no_more = tt
  low (one_more p q) = tt
  low (a_local c e) = named_begins c
  low (an_entry c e f) = named_begins c
  low (a_type i) = starts i refl
  low (a_prop i) = starts i refl
  low (a_kind i) = starts i refl
  low (a_sort i n) = starts i refl
  low (a_group i p j) = starts i refl
  low (an_ascription i p j q k) = starts i refl
  low (a_pair i p j q k) = starts i refl
  low (a_pack i p j q k) = starts i refl
  low (a_match i p j k l m n q o r u v w x) = starts i refl
  low (a_turned_match i p j k l m n q o r u v w x) = starts i refl

  pub passes : {m : Mark} {s q : Steps} {a b : List Word} {r : Reading} → Takes m a b → Follows entries end s b r → Follows entries end (next m s q) a r
  passes (took e) d = passed e d

  pub misses : {m k : Mark} {s q : Steps} {a b : List Word} {r : Reading} → Takes m a b → eqb (code m) (code k) ≡ false → Follows entries end q a r → Follows entries end (next k s q) a r
  misses {k = k} i h d = turned (differs i k h) d

  pub calls : {x : Name} {f : Name → Steps} {q : Steps} {a b : List Word} {r : Reading} → Calls x a b → Follows entries end (f x) b r → Follows entries end (a_name f q) a r
  calls (called e) d = named e d

  unnamed : {m : Mark} {f : Name → Steps} {q : Steps} {a b : List Word} {r : Reading} → Takes m a b → Follows entries end q a r → Follows entries end (a_name f q) a r
  unnamed (took e) d = nameless (grind arith) d

  pub read : {g : Sign} {sc : List Name} {a z : List Word} {t : Term} → Phrase entries end g sc a z t → Stops g z → Reads entries end g sc a (tree t z)
  read (a_function i j k p) s = passes i (calls j (passes k (parted (read p s) given)))
  read (a_typed_function i j k l p m n q) s = passes i (unnamed j (passes j (calls k (passes l (parted (read p (stop m refl)) (passes m (passes n (parted (read q s) given))))))))
  read (a_pi i j k l p m n q) s = (misses i refl (passes i (passes j (calls k (passes l (parted (read p (stop m refl)) (passes m (passes n (parted (read q s) given)))))))))
  read (a_forall i j k l p m n q) s = (misses i refl (misses i refl (passes i (passes j (calls k (passes l (parted (read p (stop m refl)) (passes m (passes n (parted (read q s) given))))))))))
  read (a_sigma i j k l p m n q) s = (misses i refl (misses i refl (misses i refl (passes i (passes j (calls k (passes l (parted (read p (stop m refl)) (passes m (passes n (parted (read q s) given)))))))))))
  read (an_exists i j k l p m n q) s = (misses i refl (misses i refl (misses i refl (misses i refl (passes i (passes j (calls k (passes l (parted (read p (stop m refl)) (passes m (passes n (parted (read q s) given))))))))))))
  read (a_let i j k p l q) s = (misses i refl (misses i refl (misses i refl (misses i refl (misses i refl (passes i (turned (called_not j OpensBrace) (calls j (misses k refl (passes k (parted (read p (stop l refl)) (passes l (parted (read q s) given)))))))))))))
  read (a_typed_let i j k p l q m r) s = (misses i refl (misses i refl (misses i refl (misses i refl (misses i refl (passes i (turned (called_not j OpensBrace) (calls j (passes k (parted (read p (stop l refl)) (passes l (parted (read q (stop m refl)) (passes m (parted (read r s) given))))))))))))))
  read (an_unpack i j k l m n o p q r) s = (misses i refl (misses i refl (misses i refl (misses i refl (misses i refl (passes i (passes j (calls k (passes l (calls m (passes n (passes o (parted (read p (stop q refl)) (passes q (parted (read r s) given)))))))))))))))
  read (no_arrow p) s = turned (low p FunWord refl) (turned (low p PiWord refl) (turned (low p ForallWord refl) (turned (low p SigmaWord refl) (turned (low p ExistsWord refl) (turned (low p LetWord refl) (parted (read p (s.0, s.1, s.2)) (turned s.3 given)))))))
  read (an_arrow p i q) s = turned (low p FunWord refl) (turned (low p PiWord refl) (turned (low p ForallWord refl) (turned (low p SigmaWord refl) (turned (low p ExistsWord refl) (turned (low p LetWord refl) (parted (read p (halts i refl, differs i Times refl, differs i Plus refl)) (passes i (parted (read q s) given))))))))
  read (no_plus p) s = parted (read p (s.0, s.1)) (turned s.2 given)
  read (a_sum p i q) s = parted (read p (halts i refl, differs i Times refl)) (passes i (parted (read q s) given))
  read (no_times p) s = parted (read p s.0) (turned s.1 given)
  read (a_product p i q) s = parted (read p (halts i refl)) (passes i (parted (read q s) given))
  read (by_atom {a = a} p q) s = turned (plain a (low p) FstWord refl) (turned (plain a (low p) SndWord refl) (turned (plain a (low p) InlWord refl) (turned (plain a (low p) InrWord refl) (parted (read p tt) (parted (read q s) given)))))
  read (by_fst i p q) s = passes i (parted (read p tt) (parted (read q s) given))
  read (by_snd i p q) s = (misses i refl (passes i (parted (read p tt) (parted (read q s) given))))
  read (by_inl i p q) s = (misses i refl (misses i refl (passes i (parted (read p tt) (parted (read q s) given)))))
  read (by_inr i p q) s = (misses i refl (misses i refl (misses i refl (passes i (parted (read p tt) (parted (read q s) given))))))
  read (no_more {sc = sc}) s = no_arguments entries end sc s
  read (one_more {sc = sc} {E = E} p q) s = argument entries end sc E (low p) (read p tt) (read q s)
  read (a_local {sc = sc} {x = x} {a = a} {z = z} {k = k} c e) s = calls c (subst (λ y. Follows entries end (meant y (find_entry x entries) (here end a)) z (tree (local (here end a) k) z)) (sym e) given)
  read (an_entry {x = x} {a = a} {z = z} {j = j} c e f) s = calls c (subst₂ (λ y w. Follows entries end (meant y w (here end a)) z (tree (entry (here end a) j) z)) (sym e) (sym f) given)
  read (a_type i) s = unnamed i (passes i given)
  read (a_prop i) s = unnamed i (misses i refl (passes i given))
  read (a_kind i) s = unnamed i (misses i refl (misses i refl (passes i given)))
  read (a_sort i (counted e)) s = unnamed i (misses i refl (misses i refl (misses i refl (passes i (numbered e given)))))
  read (a_group i p j) s = unnamed i (misses i refl (misses i refl (misses i refl (misses i refl (passes i (parted (read p (stop j refl)) (misses j refl (misses j refl (passes j given)))))))))
  read (an_ascription i p j q k) s = unnamed i (misses i refl (misses i refl (misses i refl (misses i refl (passes i (parted (read p (stop j refl)) (passes j (parted (read q (stop k refl)) (passes k given)))))))))
  read (a_pair i p j q k) s = unnamed i (misses i refl (misses i refl (misses i refl (misses i refl (passes i (parted (read p (stop j refl)) (misses j refl (passes j (parted (read q (stop k refl)) (passes k given))))))))))
  read (a_pack i p j q k) s = unnamed i (misses i refl (misses i refl (misses i refl (misses i refl (misses i refl (passes i (parted (read p (stop j refl)) (passes j (parted (read q (stop k refl)) (passes k given))))))))))
  read (a_match i p j k l m n q o r u v w x) s = unnamed i (misses i refl (misses i refl (misses i refl (misses i refl (misses i refl (misses i refl (passes i (parted (read p (stop j refl)) (passes j (passes k (passes l (calls m (passes n (parted (read q (stop o refl)) (passes o (passes r (calls u (passes v (parted (read w (stop x refl)) (passes x given))))))))))))))))))))
  read (a_turned_match i p j k l m n q o r u v w x) s = unnamed i (misses i refl (misses i refl (misses i refl (misses i refl (misses i refl (misses i refl (passes i (parted (read p (stop j refl)) (passes j (passes k (misses l refl (passes l (calls m (passes n (parted (read q (stop o refl)) (passes o (passes r (calls u (passes v (parted (read w (stop x refl)) (passes x given)))))))))))))))))))))

pub phrases_read : PhrasesRead
phrases_read entries end sc a z t p h = grind (arith, or_parts, read)
