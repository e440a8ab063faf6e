-- The text of a term as tokens and spaces.
use Rattle.std.proofs.Common.{◌≡◌, ℕ, zero, suc, ◌-◌, Bool, false, cond, eqb, List, [], ◌∷◌, ◌++◌, get_or, codes, decimal, sym, refl, ap, ◌∙◌, append_assoc, append-nil}
use Rattle.script.specs.declared.token.Mark.{Mark}
use Rattle.script.specs.declared.token.Mark.TheVariants.{TypeWord, KindWord, SortWord, Opens, OpensBrace, MatchWord, FstWord, SndWord, InlWord, InrWord, FunWord, PiWord, SigmaWord, ExistsWord, LetWord, Plus, Closes, ClosesBrace, Comma, Colon, Becomes, Maps, Bar, InWord, WithWord, EndWord}
use Rattle.script.specs.declared.token.Kind.{Kind}
use Rattle.script.specs.declared.token.Kind.TheVariants.{Name, Number, Fixed, First, NoToken}
use Rattle.script.specs.Marks.{code}
use Rattle.script.specs.Tokens.{sort_words, binder_words, part_words, joining_symbols, single_symbols}
use Rattle.term.specs.declared.node.Unary.TheVariants.{Fun, Fst, Snd, Inl, Inr}
use Rattle.term.specs.declared.node.Binary.TheVariants.{Pi, Sigma, Exists, Typed, App, Pair, Pack, Unpack, Sum, Ascribe, Let}
use Rattle.term.specs.Term.{Term, sort, local, entry, unary, binary, choice}
use Rattle.grammar.specs.Words.{Token, name, number, mark, first, no_token}
use Rattle.grammar.specs.Text.{binder_name, text}

pub data Item : Type 0 where
  space : Item
  shown : Token → Item

abbrev pub the : Mark → Item
the m = shown (mark m)

-- before the items of ps
abbrev pub sort_items : ℕ → List Item → List Item
sort_items zero ps = the TypeWord ∷ ps
sort_items (suc zero) ps = the KindWord ∷ ps
sort_items (suc (suc n)) ps = the SortWord ∷ space ∷ shown (number (suc (suc n))) ∷ ps

abbrev pub bound : ℕ → Item
bound d = shown (name (binder_name d))

module _ (entries : List (List ℕ)) where
  -- the items of a term under d binders, before those of ps
  abbrev pub printed : ℕ → Term → List Item → List Item
  printed d (sort p s) ps = sort_items s ps
  printed d (local p k) ps = bound (d - suc k) ∷ ps
  printed d (entry p j) ps = shown (name (get_or entries j [])) ∷ ps
  printed d (unary p Fun E) ps =
      the Opens ∷ the FunWord ∷ space ∷ bound d ∷ space ∷ the Maps ∷ space ∷ printed (suc d) E (the Closes ∷ ps)
  printed d (unary p Fst E) ps = the Opens ∷ the FstWord ∷ space ∷ printed d E (the Closes ∷ ps)
  printed d (unary p Snd E) ps = the Opens ∷ the SndWord ∷ space ∷ printed d E (the Closes ∷ ps)
  printed d (unary p Inl E) ps = the Opens ∷ the InlWord ∷ space ∷ printed d E (the Closes ∷ ps)
  printed d (unary p Inr E) ps = the Opens ∷ the InrWord ∷ space ∷ printed d E (the Closes ∷ ps)
  printed d (binary p Pi A B) ps =
      the Opens ∷ the PiWord ∷ space ∷ the Opens ∷ bound d ∷ space ∷ the Colon ∷ space
      ∷ printed d A (the Closes ∷ the Comma ∷ space ∷ printed (suc d) B (the Closes ∷ ps))
  printed d (binary p Sigma A B) ps =
      the Opens ∷ the SigmaWord ∷ space ∷ the Opens ∷ bound d ∷ space ∷ the Colon ∷ space
      ∷ printed d A (the Closes ∷ the Comma ∷ space ∷ printed (suc d) B (the Closes ∷ ps))
  printed d (binary p Exists A B) ps =
      the Opens ∷ the ExistsWord ∷ space ∷ the Opens ∷ bound d ∷ space ∷ the Colon ∷ space
      ∷ printed d A (the Closes ∷ the Comma ∷ space ∷ printed (suc d) B (the Closes ∷ ps))
  printed d (binary p Typed T E) ps =
      the Opens ∷ the FunWord ∷ space ∷ the Opens ∷ bound d ∷ space ∷ the Colon ∷ space
      ∷ printed d T (the Closes ∷ space ∷ the Maps ∷ space ∷ printed (suc d) E (the Closes ∷ ps))
  printed d (binary p App E F) ps = the Opens ∷ printed d E (space ∷ printed d F (the Closes ∷ ps))
  printed d (binary p Pair E F) ps = the Opens ∷ printed d E (the Comma ∷ space ∷ printed d F (the Closes ∷ ps))
  printed d (binary p Pack E F) ps = the OpensBrace ∷ printed d E (the Comma ∷ space ∷ printed d F (the ClosesBrace ∷ ps))
  printed d (binary p Unpack E F) ps =
      the Opens ∷ the LetWord ∷ space ∷ the OpensBrace ∷ bound d ∷ the Comma ∷ space
      ∷ bound (suc d) ∷ the ClosesBrace ∷ space ∷ the Becomes ∷ space
      ∷ printed d E (space ∷ the InWord ∷ space ∷ printed (suc (suc d)) F (the Closes ∷ ps))
  printed d (binary p Sum A B) ps = the Opens ∷ printed d A (space ∷ the Plus ∷ space ∷ printed d B (the Closes ∷ ps))
  printed d (binary p Ascribe E T) ps = the Opens ∷ printed d E (space ∷ the Colon ∷ space ∷ printed d T (the Closes ∷ ps))
  printed d (binary p Let E F) ps =
      the Opens ∷ the LetWord ∷ space ∷ bound d ∷ space ∷ the Becomes ∷ space
      ∷ printed d E (space ∷ the InWord ∷ space ∷ printed (suc d) F (the Closes ∷ ps))
  printed d (choice p E F G) ps =
      the Opens ∷ the MatchWord ∷ space ∷ printed d E (space ∷ the WithWord ∷ space ∷ the Bar ∷ space ∷ the InlWord ∷ space
      ∷ bound d ∷ space ∷ the Maps ∷ space ∷ printed (suc d) F (space ∷ the Bar ∷ space ∷ the InrWord ∷ space
      ∷ bound d ∷ space ∷ the Maps ∷ space ∷ printed (suc d) G (space ∷ the EndWord ∷ the Closes ∷ ps)))

abbrev is_mark : Mark → Kind → Bool
is_mark m Name = false
is_mark m (Number n) = false
is_mark m (Fixed k) = eqb (code k) (code m)
is_mark m (First w) = false
is_mark m NoToken = false

-- how the first row of a table that has the mark spells it
abbrev spelling : List (List ℕ × Kind) → Mark → List ℕ
spelling [] m = []
spelling (x ∷ xs) m = cond (is_mark m x.1) x.0 (spelling xs m)

abbrev pub spelled : Token → List ℕ
spelled (name x) = x
spelled (number n) = decimal n
spelled (mark m) = spelling (sort_words ++ binder_words ++ part_words ++ single_symbols ++ joining_symbols) m
spelled (first w) = []
spelled no_token = []

abbrev pub bytes : List Item → List ℕ
bytes [] = []
bytes (space ∷ ps) = 32 ∷ bytes ps
bytes (shown x ∷ ps) = spelled x ++ bytes ps

-- lists in a row, as `++` groups them, and grouped the other way before r
abbrev row : List ℕ → List (List ℕ) → List ℕ
row a [] = a
row a (x ∷ xs) = row (a ++ x) xs

abbrev before : List (List ℕ) → List ℕ → List ℕ
before [] r = r
before (x ∷ xs) r = x ++ before xs r

regroup : (a : List ℕ) (xs : List (List ℕ)) (r : List ℕ) → row a xs ++ r ≡ before (a ∷ xs) r
regroup a [] r = refl
regroup a (x ∷ xs) r = regroup (a ++ x) xs r ∙ append_assoc a x (before xs r)

module _ (entries : List (List ℕ)) where
  itemized : (d : ℕ) (t : Term) (ps : List Item) → text entries d t ++ bytes ps ≡ bytes (printed entries d t ps)
  itemized d (sort p zero) ps = refl
  itemized d (sort p (suc zero)) ps = refl
  itemized d (sort p (suc (suc n))) ps = refl
  itemized d (local p k) ps = refl
  itemized d (entry p j) ps = refl
  itemized d (unary p Fun E) ps =
      regroup (codes "(fun ") (binder_name d ∷ codes " => " ∷ text entries (suc d) E ∷ codes ")" ∷ []) (bytes ps)
      ∙ ap (before (codes "(fun " ∷ binder_name d ∷ codes " => " ∷ [])) (itemized (suc d) E (the Closes ∷ ps))
  itemized d (unary p Fst E) ps =
      regroup (codes "(") (codes "fst" ∷ codes " " ∷ text entries d E ∷ codes ")" ∷ []) (bytes ps)
      ∙ ap (before (codes "(" ∷ codes "fst" ∷ codes " " ∷ [])) (itemized d E (the Closes ∷ ps))
  itemized d (unary p Snd E) ps =
      regroup (codes "(") (codes "snd" ∷ codes " " ∷ text entries d E ∷ codes ")" ∷ []) (bytes ps)
      ∙ ap (before (codes "(" ∷ codes "snd" ∷ codes " " ∷ [])) (itemized d E (the Closes ∷ ps))
  itemized d (unary p Inl E) ps =
      regroup (codes "(") (codes "inl" ∷ codes " " ∷ text entries d E ∷ codes ")" ∷ []) (bytes ps)
      ∙ ap (before (codes "(" ∷ codes "inl" ∷ codes " " ∷ [])) (itemized d E (the Closes ∷ ps))
  itemized d (unary p Inr E) ps =
      regroup (codes "(") (codes "inr" ∷ codes " " ∷ text entries d E ∷ codes ")" ∷ []) (bytes ps)
      ∙ ap (before (codes "(" ∷ codes "inr" ∷ codes " " ∷ [])) (itemized d E (the Closes ∷ ps))
  itemized d (binary p Pi A B) ps =
      regroup (codes "(") (codes "Pi" ∷ codes " (" ∷ binder_name d ∷ codes " : " ∷ text entries d A ∷ codes "), " ∷ text entries (suc d) B ∷ codes ")" ∷ []) (bytes ps)
      ∙ ap (before (codes "(" ∷ codes "Pi" ∷ codes " (" ∷ binder_name d ∷ codes " : " ∷ text entries d A ∷ codes "), " ∷ [])) (itemized (suc d) B (the Closes ∷ ps))
      ∙ ap (before (codes "(" ∷ codes "Pi" ∷ codes " (" ∷ binder_name d ∷ codes " : " ∷ [])) (itemized d A (the Closes ∷ the Comma ∷ space ∷ printed entries (suc d) B (the Closes ∷ ps)))
  itemized d (binary p Sigma A B) ps =
      regroup (codes "(") (codes "Sigma" ∷ codes " (" ∷ binder_name d ∷ codes " : " ∷ text entries d A ∷ codes "), " ∷ text entries (suc d) B ∷ codes ")" ∷ []) (bytes ps)
      ∙ ap (before (codes "(" ∷ codes "Sigma" ∷ codes " (" ∷ binder_name d ∷ codes " : " ∷ text entries d A ∷ codes "), " ∷ [])) (itemized (suc d) B (the Closes ∷ ps))
      ∙ ap (before (codes "(" ∷ codes "Sigma" ∷ codes " (" ∷ binder_name d ∷ codes " : " ∷ [])) (itemized d A (the Closes ∷ the Comma ∷ space ∷ printed entries (suc d) B (the Closes ∷ ps)))
  itemized d (binary p Exists A B) ps =
      regroup (codes "(") (codes "exists" ∷ codes " (" ∷ binder_name d ∷ codes " : " ∷ text entries d A ∷ codes "), " ∷ text entries (suc d) B ∷ codes ")" ∷ []) (bytes ps)
      ∙ ap (before (codes "(" ∷ codes "exists" ∷ codes " (" ∷ binder_name d ∷ codes " : " ∷ text entries d A ∷ codes "), " ∷ [])) (itemized (suc d) B (the Closes ∷ ps))
      ∙ ap (before (codes "(" ∷ codes "exists" ∷ codes " (" ∷ binder_name d ∷ codes " : " ∷ [])) (itemized d A (the Closes ∷ the Comma ∷ space ∷ printed entries (suc d) B (the Closes ∷ ps)))
  itemized d (binary p Typed T E) ps =
      regroup (codes "(fun (") (binder_name d ∷ codes " : " ∷ text entries d T ∷ codes ") => " ∷ text entries (suc d) E ∷ codes ")" ∷ []) (bytes ps)
      ∙ ap (before (codes "(fun (" ∷ binder_name d ∷ codes " : " ∷ text entries d T ∷ codes ") => " ∷ [])) (itemized (suc d) E (the Closes ∷ ps))
      ∙ ap (before (codes "(fun (" ∷ binder_name d ∷ codes " : " ∷ [])) (itemized d T (the Closes ∷ space ∷ the Maps ∷ space ∷ printed entries (suc d) E (the Closes ∷ ps)))
  itemized d (binary p App E F) ps =
      regroup (codes "(") (text entries d E ∷ codes " " ∷ text entries d F ∷ codes ")" ∷ []) (bytes ps)
      ∙ ap (before (codes "(" ∷ text entries d E ∷ codes " " ∷ [])) (itemized d F (the Closes ∷ ps))
      ∙ ap (before (codes "(" ∷ [])) (itemized d E (space ∷ printed entries d F (the Closes ∷ ps)))
  itemized d (binary p Pair E F) ps =
      regroup (codes "(") (text entries d E ∷ codes ", " ∷ text entries d F ∷ codes ")" ∷ []) (bytes ps)
      ∙ ap (before (codes "(" ∷ text entries d E ∷ codes ", " ∷ [])) (itemized d F (the Closes ∷ ps))
      ∙ ap (before (codes "(" ∷ [])) (itemized d E (the Comma ∷ space ∷ printed entries d F (the Closes ∷ ps)))
  itemized d (binary p Pack E F) ps =
      regroup (codes "{") (text entries d E ∷ codes ", " ∷ text entries d F ∷ codes "}" ∷ []) (bytes ps)
      ∙ ap (before (codes "{" ∷ text entries d E ∷ codes ", " ∷ [])) (itemized d F (the ClosesBrace ∷ ps))
      ∙ ap (before (codes "{" ∷ [])) (itemized d E (the Comma ∷ space ∷ printed entries d F (the ClosesBrace ∷ ps)))
  itemized d (binary p Unpack E F) ps =
      regroup (codes "(let {") (binder_name d ∷ codes ", " ∷ binder_name (suc d) ∷ codes "} := " ∷ text entries d E ∷ codes " in " ∷ text entries (suc (suc d)) F ∷ codes ")" ∷ []) (bytes ps)
      ∙ ap (before (codes "(let {" ∷ binder_name d ∷ codes ", " ∷ binder_name (suc d) ∷ codes "} := " ∷ text entries d E ∷ codes " in " ∷ [])) (itemized (suc (suc d)) F (the Closes ∷ ps))
      ∙ ap (before (codes "(let {" ∷ binder_name d ∷ codes ", " ∷ binder_name (suc d) ∷ codes "} := " ∷ [])) (itemized d E (space ∷ the InWord ∷ space ∷ printed entries (suc (suc d)) F (the Closes ∷ ps)))
  itemized d (binary p Sum E F) ps =
      regroup (codes "(") (text entries d E ∷ codes " + " ∷ text entries d F ∷ codes ")" ∷ []) (bytes ps)
      ∙ ap (before (codes "(" ∷ text entries d E ∷ codes " + " ∷ [])) (itemized d F (the Closes ∷ ps))
      ∙ ap (before (codes "(" ∷ [])) (itemized d E (space ∷ the Plus ∷ space ∷ printed entries d F (the Closes ∷ ps)))
  itemized d (binary p Ascribe E F) ps =
      regroup (codes "(") (text entries d E ∷ codes " : " ∷ text entries d F ∷ codes ")" ∷ []) (bytes ps)
      ∙ ap (before (codes "(" ∷ text entries d E ∷ codes " : " ∷ [])) (itemized d F (the Closes ∷ ps))
      ∙ ap (before (codes "(" ∷ [])) (itemized d E (space ∷ the Colon ∷ space ∷ printed entries d F (the Closes ∷ ps)))
  itemized d (binary p Let E F) ps =
      regroup (codes "(let ") (binder_name d ∷ codes " := " ∷ text entries d E ∷ codes " in " ∷ text entries (suc d) F ∷ codes ")" ∷ []) (bytes ps)
      ∙ ap (before (codes "(let " ∷ binder_name d ∷ codes " := " ∷ text entries d E ∷ codes " in " ∷ [])) (itemized (suc d) F (the Closes ∷ ps))
      ∙ ap (before (codes "(let " ∷ binder_name d ∷ codes " := " ∷ [])) (itemized d E (space ∷ the InWord ∷ space ∷ printed entries (suc d) F (the Closes ∷ ps)))
  itemized d (choice p E F G) ps =
      let js = space ∷ the Bar ∷ space ∷ the InrWord ∷ space ∷ bound d ∷ space ∷ the Maps ∷ space ∷ printed entries (suc d) G (space ∷ the EndWord ∷ the Closes ∷ ps) in
      regroup (codes "(match ") (text entries d E ∷ codes " with | inl " ∷ binder_name d ∷ codes " => " ∷ text entries (suc d) F ∷ codes " | inr " ∷ binder_name d ∷ codes " => " ∷ text entries (suc d) G ∷ codes " end)" ∷ []) (bytes ps)
      ∙ ap (before (codes "(match " ∷ text entries d E ∷ codes " with | inl " ∷ binder_name d ∷ codes " => " ∷ text entries (suc d) F ∷ codes " | inr " ∷ binder_name d ∷ codes " => " ∷ [])) (itemized (suc d) G (space ∷ the EndWord ∷ the Closes ∷ ps))
      ∙ ap (before (codes "(match " ∷ text entries d E ∷ codes " with | inl " ∷ binder_name d ∷ codes " => " ∷ [])) (itemized (suc d) F js)
      ∙ ap (before (codes "(match " ∷ [])) (itemized d E (space ∷ the WithWord ∷ space ∷ the Bar ∷ space ∷ the InlWord ∷ space ∷ bound d ∷ space ∷ the Maps ∷ space ∷ printed entries (suc d) F js))

  pub text_items : (d : ℕ) (t : Term) → text entries d t ≡ bytes (printed entries d t [])
  text_items d t = sym (append-nil (text entries d t)) ∙ itemized d t []
