-- The words of a printed term read as that term.
use Rattle.std.proofs.Common.{◌≡◌, ℕ, zero, suc, ◌+◌, ◌-◌, true, false, List, [], ◌∷◌, length, get_or, Some, None, sym, refl, ap, ◌∙◌, subst, ap₂, subst₂, arith}
use Rattle.script.specs.declared.token.Mark.TheVariants.{Opens, FstWord, SndWord, InlWord, InrWord, FunWord, PiWord, ForallWord, SigmaWord, ExistsWord, LetWord, Arrow, Plus, Times, Closes, ClosesBrace, Comma, Colon, Maps, Bar, InWord, WithWord, EndWord}
use Rattle.term.specs.declared.node.Unary.TheVariants.{Fun, Fst, Snd, Inl, Inr}
use Rattle.term.specs.declared.node.Binary.TheVariants.{Pi, Sigma, Exists, Typed, App, Pair, Pack, Unpack, Sum, Ascribe, Let}
use Rattle.term.specs.Term.{Term, sort, local, entry, unary, binary, choice, bare}
use Rattle.grammar.specs.Words.{Token, name, mark, Word}
use Rattle.grammar.specs.Grammar.{Name, expr, sums, products, application, atom, arguments, meant, find, find_entry, is, begins, tree, Follows, Reads}
use Rattle.grammar.specs.Grammar.Follows.{given, passed, turned, named, nameless, numbered, parted}
use Rattle.grammar.specs.Text.{binder_name, binder_names, GoodNames, Printable}
use Rattle.grammar.proofs.Atoms.{plain, no_arguments, argument}
use Rattle.grammar.proofs.Depths.{under_none, under, under_two}
use Rattle.grammar.proofs.Names.{find_binder, find_none, entry_found}
use Rattle.grammar.proofs.Pieces.{Item, space, shown, the, bound, printed}
use Rattle.grammar.proofs.Words.{put}

-- the words of pieces from a place on, before those that k gives for the place reached
abbrev pub laid : (Token → ℕ) → (ℕ → List Word) → List Item → ℕ → List Word
laid w k [] at = k at
laid w k (space ∷ ps) at = laid w k ps (suc at)
laid w k (shown x ∷ ps) at = put x at ∷ laid w k ps (at + w x)

-- the place that pieces reach
abbrev pub reach : (Token → ℕ) → List Item → ℕ → ℕ
reach w [] at = at
reach w (space ∷ ps) at = reach w ps (suc at)
reach w (shown x ∷ ps) at = reach w ps (at + w x)

ap₃ : {A B C D : Type 0} (f : A → B → C → D) {a a' : A} {b b' : B} {c c' : C} → a ≡ a' → b ≡ b' → c ≡ c' → f a b c ≡ f a' b' c'
ap₃ f p q r = λ i. f (p i) (q i) (r i)

module _ (entries : List Name) (end : ℕ) (sc : List Name) {ws us : List Word} {t : Term} where
  as_products : is Times us ≡ false → Reads entries end application sc ws (tree t us) → Reads entries end products sc ws (tree t us)
  as_products e r = parted r (turned e given)

  as_sums : is Times us ≡ false → is Plus us ≡ false → Reads entries end application sc ws (tree t us) → Reads entries end sums sc ws (tree t us)
  as_sums e f r = parted (as_products e r) (turned f given)

  -- in an application's place, what begins with an atom
  led : {u : Term} {vs : List Word} → begins ws ≡ true → Reads entries end atom sc ws (tree t us) → Reads entries end (arguments t) sc us (tree u vs) → Reads entries end application sc ws (tree u vs)
  led e r q = turned (plain ws e FstWord refl) (turned (plain ws e SndWord refl) (turned (plain ws e InlWord refl) (turned (plain ws e InrWord refl) (parted r (parted q given)))))

  -- in an expression's place, what begins with an atom
  begun : begins ws ≡ true → is Arrow us ≡ false → Reads entries end sums sc ws (tree t us) → Reads entries end expr sc ws (tree t us)
  begun e f r = turned (plain ws e FunWord refl) (turned (plain ws e PiWord refl) (turned (plain ws e ForallWord refl) (turned (plain ws e SigmaWord refl) (turned (plain ws e ExistsWord refl) (turned (plain ws e LetWord refl) (parted r (turned f given)))))))

module _ (entries : List Name) (end : ℕ) (sc : List Name) {ws us : List Word} {t : Term} where
  alone : begins ws ≡ true → begins us ≡ false → Reads entries end atom sc ws (tree t us) → Reads entries end application sc ws (tree t us)
  alone e f r = grind (arith, led, no_arguments)

  -- an atom in an expression's place, before what does not go on with it
  as_expr : begins ws ≡ true → begins us ≡ false → is Times us ≡ false → is Plus us ≡ false → is Arrow us ≡ false → Reads entries end atom sc ws (tree t us) → Reads entries end expr sc ws (tree t us)
  as_expr e f a b c r = grind (arith, begun, as_sums, alone)

module _ (entries : List Name) (end : ℕ) (sc : List Name) where
  a_local : {x : Name} {j p : ℕ} {ws : List Word} → find x sc ≡ Some j → Reads entries end atom sc (put (name x) p ∷ ws) (tree (local p j) ws)
  a_local {x} {j} {p} {ws} e = named refl (subst (λ a. Follows entries end (meant a (find_entry x entries) p) ws (tree (local p j) ws)) (sym e) given)

  an_entry : {x : Name} {j p : ℕ} {ws : List Word} → find x sc ≡ None → find_entry x entries ≡ Some j → Reads entries end atom sc (put (name x) p ∷ ws) (tree (entry p j) ws)
  an_entry {x} {j} {p} {ws} e f = named refl (subst₂ (λ a b. Follows entries end (meant a b p) ws (tree (entry p j) ws)) (sym e) (sym f) given)

  -- an expression in parentheses
  group : {p q : ℕ} {t : Term} {ws vs : List Word} → Reads entries end expr sc ws (tree t (put (mark Closes) q ∷ vs)) → Reads entries end atom sc (put (mark Opens) p ∷ ws) (tree t vs)
  group r = nameless refl (turned refl (turned refl (turned refl (turned refl (passed refl (parted r (turned refl (turned refl (passed refl given)))))))))

module _ (entries : List Name) (end : ℕ) (w : Token → ℕ) (k : ℕ → List Word) where
  -- a printed term begins as an atom does
  pub starts : (d : ℕ) (t : Term) (ps : List Item) (at : ℕ) → begins (laid w k (printed entries d t ps) at) ≡ true
  starts d (sort p zero) ps at = refl
  starts d (sort p (suc zero)) ps at = refl
  starts d (sort p (suc (suc n))) ps at = refl
  starts d (local p j) ps at = refl
  starts d (entry p j) ps at = refl
  starts d (unary p Fun E) ps at = refl
  starts d (unary p Fst E) ps at = refl
  starts d (unary p Snd E) ps at = refl
  starts d (unary p Inl E) ps at = refl
  starts d (unary p Inr E) ps at = refl
  starts d (binary p Pi E F) ps at = refl
  starts d (binary p Sigma E F) ps at = refl
  starts d (binary p Exists E F) ps at = refl
  starts d (binary p Typed E F) ps at = refl
  starts d (binary p App E F) ps at = refl
  starts d (binary p Pair E F) ps at = refl
  starts d (binary p Pack E F) ps at = refl
  starts d (binary p Unpack E F) ps at = refl
  starts d (binary p Sum E F) ps at = refl
  starts d (binary p Ascribe E F) ps at = refl
  starts d (binary p Let E F) ps at = refl
  starts d (choice p E F G) ps at = refl

  -- the term read, like t but for places, up to the pieces of is
  pub record Back (d : ℕ) (t : Term) (ps : List Item) (at : ℕ) : Type 0 where
    pub term : Term
    pub to : ℕ
    pub reached : reach w ps to ≡ reach w (printed entries d t ps) at
    pub reads : Reads entries end atom (binder_names d) (laid w k (printed entries d t ps) at) (tree term (laid w k ps to))
    pub same : bare term ≡ bare t

  -- the same in an expression's place
  pub whole : {d : ℕ} {t : Term} {ps : List Item} {at : ℕ} (b : Back d t ps at) → begins (laid w k ps b.to) ≡ false → is Times (laid w k ps b.to) ≡ false → is Plus (laid w k ps b.to) ≡ false → is Arrow (laid w k ps b.to) ≡ false → Reads entries end expr (binder_names d) (laid w k (printed entries d t ps) at) (tree b.term (laid w k ps b.to))
  whole {d} {t} {ps} {at} b e f g h = as_expr entries end (binder_names d) (starts d t ps at) e f g h b.reads

  module _ (good : GoodNames entries) where
    pub back : (d : ℕ) (t : Term) (ps : List Item) (at : ℕ) → Printable (length entries) d t → Back d t ps at
    back d (sort p zero) ps at h = record { term = sort at 0; to = _; reached = refl; reads = nameless refl (passed refl given); same = refl }
    back d (sort p (suc zero)) ps at h = record { term = sort at 1; to = _; reached = refl; reads = nameless refl (turned refl (turned refl (passed refl given))); same = refl }
    back d (sort p (suc (suc n))) ps at h = record { term = sort at (suc (suc n)); to = _; reached = refl; reads = nameless refl (turned refl (turned refl (turned refl (passed refl (numbered refl given))))); same = refl }
    back d (local p j) ps at h =
        let e : find (binder_name (d - suc j)) (binder_names d) ≡ Some j = find_binder d (d - suc j) (omega arith) h.0 ∙ ap Some (omega arith) in
        record { term = local at j; to = _; reached = refl; reads = a_local entries end (binder_names d) e; same = refl }
    back d (entry p j) ps at h =
        let x = get_or entries j [] in
        let e : find x (binder_names d) ≡ None = find_none x d (good.good j h.1).letter_first in
        let f : find_entry x entries ≡ Some j = entry_found entries j good.distinct h.1 in
        record { term = entry at j; to = _; reached = refl; reads = an_entry entries end (binder_names d) e f; same = refl }
    back d (unary p Fun E) ps at h =
        let r = back (suc d) E (the Closes ∷ ps) _ (under (length entries) d E h) in
        record {
          term = _;
          to = _;
          reached = r.reached;
          same = ap (unary 0 Fun) r.same;
          reads = group entries end (binder_names d) (passed refl (named refl (passed refl (parted (whole r refl refl refl refl) given))));
        }
    back d (unary p Fst E) ps at h =
        let r = back d E (the Closes ∷ ps) _ (under_none (length entries) d E h) in
        record {
          term = _;
          to = _;
          reached = r.reached;
          same = ap (unary 0 Fst) r.same;
          reads = group entries end (binder_names d) (turned refl (turned refl (turned refl (turned refl (turned refl (turned refl (parted (as_sums entries end (binder_names d) refl refl (passed refl (parted r.reads (parted (no_arguments entries end (binder_names d) refl) given)))) (turned refl given))))))));
        }
    back d (unary p Snd E) ps at h =
        let r = back d E (the Closes ∷ ps) _ (under_none (length entries) d E h) in
        record {
          term = _;
          to = _;
          reached = r.reached;
          same = ap (unary 0 Snd) r.same;
          reads = group entries end (binder_names d) (turned refl (turned refl (turned refl (turned refl (turned refl (turned refl (parted (as_sums entries end (binder_names d) refl refl (turned refl (passed refl (parted r.reads (parted (no_arguments entries end (binder_names d) refl) given))))) (turned refl given))))))));
        }
    back d (unary p Inl E) ps at h =
        let r = back d E (the Closes ∷ ps) _ (under_none (length entries) d E h) in
        record {
          term = _;
          to = _;
          reached = r.reached;
          same = ap (unary 0 Inl) r.same;
          reads = group entries end (binder_names d) (turned refl (turned refl (turned refl (turned refl (turned refl (turned refl (parted (as_sums entries end (binder_names d) refl refl (turned refl (turned refl (passed refl (parted r.reads (parted (no_arguments entries end (binder_names d) refl) given)))))) (turned refl given))))))));
        }
    back d (unary p Inr E) ps at h =
        let r = back d E (the Closes ∷ ps) _ (under_none (length entries) d E h) in
        record {
          term = _;
          to = _;
          reached = r.reached;
          same = ap (unary 0 Inr) r.same;
          reads = group entries end (binder_names d) (turned refl (turned refl (turned refl (turned refl (turned refl (turned refl (parted (as_sums entries end (binder_names d) refl refl (turned refl (turned refl (turned refl (passed refl (parted r.reads (parted (no_arguments entries end (binder_names d) refl) given))))))) (turned refl given))))))));
        }
    back d (binary p Pi E F) ps at h =
        let r = back d E (the Closes ∷ the Comma ∷ space ∷ printed entries (suc d) F (the Closes ∷ ps)) _ h.0 in
        let q = back (suc d) F (the Closes ∷ ps) _ (under (length entries) d F h.1) in
        record {
          term = _;
          to = _;
          reached = q.reached ∙ r.reached;
          same = ap₂ (binary 0 Pi) r.same q.same;
          reads = group entries end (binder_names d) (turned refl (passed refl (passed refl (named refl (passed refl (parted (whole r refl refl refl refl) (passed refl (passed refl (parted (whole q refl refl refl refl) given)))))))));
        }
    back d (binary p Sigma E F) ps at h =
        let r = back d E (the Closes ∷ the Comma ∷ space ∷ printed entries (suc d) F (the Closes ∷ ps)) _ h.0 in
        let q = back (suc d) F (the Closes ∷ ps) _ (under (length entries) d F h.1) in
        record {
          term = _;
          to = _;
          reached = q.reached ∙ r.reached;
          same = ap₂ (binary 0 Sigma) r.same q.same;
          reads = group entries end (binder_names d) (turned refl (turned refl (turned refl (passed refl (passed refl (named refl (passed refl (parted (whole r refl refl refl refl) (passed refl (passed refl (parted (whole q refl refl refl refl) given)))))))))));
        }
    back d (binary p Exists E F) ps at h =
        let r = back d E (the Closes ∷ the Comma ∷ space ∷ printed entries (suc d) F (the Closes ∷ ps)) _ h.0 in
        let q = back (suc d) F (the Closes ∷ ps) _ (under (length entries) d F h.1) in
        record {
          term = _;
          to = _;
          reached = q.reached ∙ r.reached;
          same = ap₂ (binary 0 Exists) r.same q.same;
          reads = group entries end (binder_names d) (turned refl (turned refl (turned refl (turned refl (passed refl (passed refl (named refl (passed refl (parted (whole r refl refl refl refl) (passed refl (passed refl (parted (whole q refl refl refl refl) given))))))))))));
        }
    back d (binary p Typed E F) ps at h =
        let r = back d E (the Closes ∷ space ∷ the Maps ∷ space ∷ printed entries (suc d) F (the Closes ∷ ps)) _ h.0 in
        let q = back (suc d) F (the Closes ∷ ps) _ (under (length entries) d F h.1) in
        record {
          term = _;
          to = _;
          reached = q.reached ∙ r.reached;
          same = ap₂ (binary 0 Typed) r.same q.same;
          reads = group entries end (binder_names d) (passed refl (nameless refl (passed refl (named refl (passed refl (parted (whole r refl refl refl refl) (passed refl (passed refl (parted (whole q refl refl refl refl) given)))))))));
        }
    back d (binary p App E F) ps at h =
        let r = back d E (space ∷ printed entries d F (the Closes ∷ ps)) _ h.0 in
        let q = back d F (the Closes ∷ ps) _ (under_none (length entries) d F h.1) in
        let e = starts d E (space ∷ printed entries d F (the Closes ∷ ps)) _ in
        record {
          term = _;
          to = _;
          reached = q.reached ∙ r.reached;
          same = ap₂ (binary 0 App) r.same q.same;
          reads = group entries end (binder_names d) (begun entries end (binder_names d) e refl (as_sums entries end (binder_names d) refl refl (led entries end (binder_names d) e r.reads (argument entries end (binder_names d) r.term (starts d F (the Closes ∷ ps) _) q.reads (no_arguments entries end (binder_names d) refl)))));
        }
    back d (binary p Pair E F) ps at h =
        let r = back d E (the Comma ∷ space ∷ printed entries d F (the Closes ∷ ps)) _ h.0 in
        let q = back d F (the Closes ∷ ps) _ (under_none (length entries) d F h.1) in
        record {
          term = _;
          to = _;
          reached = q.reached ∙ r.reached;
          same = ap₂ (binary 0 Pair) r.same q.same;
          reads = nameless refl (turned refl (turned refl (turned refl (turned refl (passed refl (parted (whole r refl refl refl refl) (turned refl (passed refl (parted (whole q refl refl refl refl) (passed refl given))))))))));
        }
    back d (binary p Pack E F) ps at h =
        let r = back d E (the Comma ∷ space ∷ printed entries d F (the ClosesBrace ∷ ps)) _ h.0 in
        let q = back d F (the ClosesBrace ∷ ps) _ (under_none (length entries) d F h.1) in
        record {
          term = _;
          to = _;
          reached = q.reached ∙ r.reached;
          same = ap₂ (binary 0 Pack) r.same q.same;
          reads = nameless refl (turned refl (turned refl (turned refl (turned refl (turned refl (passed refl (parted (whole r refl refl refl refl) (passed refl (parted (whole q refl refl refl refl) (passed refl given))))))))));
        }
    back d (binary p Unpack E F) ps at h =
        let r = back d E (space ∷ the InWord ∷ space ∷ printed entries (suc (suc d)) F (the Closes ∷ ps)) _ h.0 in
        let q = back (suc (suc d)) F (the Closes ∷ ps) _ (under_two (length entries) d F h.1) in
        record {
          term = _;
          to = _;
          reached = q.reached ∙ r.reached;
          same = ap₂ (binary 0 Unpack) r.same q.same;
          reads = group entries end (binder_names d) (turned refl (turned refl (turned refl (turned refl (turned refl (passed refl (passed refl (named refl (passed refl (named refl (passed refl (passed refl (parted (whole r refl refl refl refl) (passed refl (parted (whole q refl refl refl refl) given)))))))))))))));
        }
    back d (binary p Sum E F) ps at h =
        let r = back d E (space ∷ the Plus ∷ space ∷ printed entries d F (the Closes ∷ ps)) _ h.0 in
        let q = back d F (the Closes ∷ ps) _ (under_none (length entries) d F h.1) in
        let e = starts d E (space ∷ the Plus ∷ space ∷ printed entries d F (the Closes ∷ ps)) _ in
        let f = starts d F (the Closes ∷ ps) _ in
        record {
          term = _;
          to = _;
          reached = q.reached ∙ r.reached;
          same = ap₂ (binary 0 Sum) r.same q.same;
          reads = group entries end (binder_names d) (begun entries end (binder_names d) e refl (parted (as_products entries end (binder_names d) refl (alone entries end (binder_names d) e refl r.reads)) (passed refl (parted (as_sums entries end (binder_names d) refl refl (alone entries end (binder_names d) f refl q.reads)) given))));
        }
    back d (binary p Ascribe E F) ps at h =
        let r = back d E (space ∷ the Colon ∷ space ∷ printed entries d F (the Closes ∷ ps)) _ h.0 in
        let q = back d F (the Closes ∷ ps) _ (under_none (length entries) d F h.1) in
        record {
          term = _;
          to = _;
          reached = q.reached ∙ r.reached;
          same = ap₂ (binary 0 Ascribe) r.same q.same;
          reads = nameless refl (turned refl (turned refl (turned refl (turned refl (passed refl (parted (whole r refl refl refl refl) (passed refl (parted (whole q refl refl refl refl) (passed refl given)))))))));
        }
    back d (binary p Let E F) ps at h =
        let r = back d E (space ∷ the InWord ∷ space ∷ printed entries (suc d) F (the Closes ∷ ps)) _ h.0 in
        let q = back (suc d) F (the Closes ∷ ps) _ (under (length entries) d F h.1) in
        record {
          term = _;
          to = _;
          reached = q.reached ∙ r.reached;
          same = ap₂ (binary 0 Let) r.same q.same;
          reads = group entries end (binder_names d) (turned refl (turned refl (turned refl (turned refl (turned refl (passed refl (turned refl (named refl (turned refl (passed refl (parted (whole r refl refl refl refl) (passed refl (parted (whole q refl refl refl refl) given)))))))))))));
        }
    back d (choice p E F G) ps at h =
        let r = back d E (space ∷ the WithWord ∷ space ∷ the Bar ∷ space ∷ the InlWord ∷ space ∷ bound d ∷ space ∷ the Maps ∷ space ∷ printed entries (suc d) F (space ∷ the Bar ∷ space ∷ the InrWord ∷ space ∷ bound d ∷ space ∷ the Maps ∷ space ∷ printed entries (suc d) G (space ∷ the EndWord ∷ the Closes ∷ ps))) _ h.0 in
        let q = back (suc d) F (space ∷ the Bar ∷ space ∷ the InrWord ∷ space ∷ bound d ∷ space ∷ the Maps ∷ space ∷ printed entries (suc d) G (space ∷ the EndWord ∷ the Closes ∷ ps)) _ (under (length entries) d F h.1) in
        let o = back (suc d) G (space ∷ the EndWord ∷ the Closes ∷ ps) _ (under (length entries) d G h.2) in
        let m : Reads entries end atom (binder_names d) _ (tree (choice _ r.term q.term o.term) (laid w k (the Closes ∷ ps) _)) =
        nameless refl (turned refl (turned refl (turned refl (turned refl (turned refl (turned refl (passed refl (parted (whole r refl refl refl refl) (passed refl (passed refl (passed refl (named refl (passed refl (parted (whole q refl refl refl refl) (passed refl (passed refl (named refl (passed refl (parted (whole o refl refl refl refl) (passed refl given)))))))))))))))))))) in
        record { term = _; to = _; reached = o.reached ∙ q.reached ∙ r.reached; same = ap₃ (choice 0) r.same q.same o.same; reads = group entries end (binder_names d) (as_expr entries end (binder_names d) refl refl refl refl refl m) }
