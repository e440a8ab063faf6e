-- What is read has its locals bound, its entries there and its sorts low.
use Rattle.std.proofs.Common.{◌≡◌, ℕ, suc, ◌+◌, ◌<◌, ◌≤◌, Bool, true, cond, not, List, [], ◌∷◌, length, Some, None, Option, refl, ap, subst, arith}
use Rattle.std.specs.List.{AllByRecursion}
use Rattle.std.specs.Str.{bytes_eq}
use Rattle.std.proofs.lemmas.Bool.{lt-leb}
use Rattle.std.proofs.ByRecursion.{All-weaker}
use Rattle.script.specs.declared.token.Mark.{Mark}
use Rattle.script.specs.declared.statement.StatementKind.{StatementKind}
use Rattle.script.specs.Names.{last_from}
use Rattle.term.specs.Forms.{binds, binds_last}
use Rattle.term.specs.Term.{Term, sort, local, entry, unary, binary, choice, closed}
use Rattle.grammar.specs.Words.{Token, name, number, mark, first, no_token, Word}
use Rattle.grammar.specs.Grammar.{Name, Sign, expr, sums, products, application, atom, arguments, find, find_entry, past, tree}
use Rattle.grammar.specs.Phrases.{Takes, took, Calls, called, Counts, counted, Phrase}
use Rattle.grammar.specs.Phrases.Phrase.{a_function, a_typed_function, a_pi, a_forall, a_sigma, an_exists, a_let, a_typed_let, an_unpack, no_arrow, an_arrow, no_plus, a_sum, no_times, a_product}
use Rattle.grammar.specs.Phrases.Phrase.{by_atom, by_fst, by_snd, by_inl, by_inr, no_more, one_more, a_local, an_entry, a_type, a_prop, a_kind, a_sort, a_group, an_ascription, a_pair, a_pack, a_match, a_turned_match}
use Rattle.grammar.specs.Statements.{States}
use Rattle.grammar.specs.Sentences.{Enters, Sentence}
use Rattle.grammar.specs.Sentences.Sentence.{a_def, a_typed_def, an_axiom, a_check, an_eval}
use Rattle.standing.specs.Standing.{Bounded, Low, ReadClosed, ReadBounded}
use Rattle.grammar.proofs.Sentences.{read_sentences}

-- what is found lies below n
abbrev Within : ℕ → Option ℕ → Type 0
Within n None = Unit {0}
Within n (Some k) = k < n

find_within : (x : Name) (sc : List Name) → Within (length sc) (find x sc)
find_within x [] = tt
find_within x (y ∷ sc) = grind (arith, find_within x sc)

one_later : (i : ℕ) (b : Bool) (o : Option ℕ) → Within i o → Within (i + 1) (cond b (Some i) o)
one_later i b o h = grind arith

last_within : (p : Name → Bool) (i : ℕ) (o : Option ℕ) (xs : List Name) → Within i o → Within (i + length xs) (last_from p i o xs)
last_within p i o [] h = grind arith
last_within p i o (x ∷ xs) h = grind (arith, last_within p (i + 1) (cond (p x) (Some i) o) xs (one_later i (p x) o h))

entry_within : (x : Name) (es : List Name) → Within (length es) (find_entry x es)
entry_within x es =
    let e : 0 + length es ≡ length es = omega arith in
    subst (λ n. Within n (find_entry x es)) e (last_within (λ y. bytes_eq y x) 0 None es tt)

-- q of the numbers
module _ (q : ℕ → Type 0) where
  abbrev Fine : Token → Type 0
  Fine (name x) = Unit {0}
  Fine (number n) = q n
  Fine (mark m) = Unit {0}
  Fine (first w) = Unit {0}
  Fine no_token = Unit {0}

  abbrev AllFine : List Word → Type 0
  AllFine = AllByRecursion (λ (w : Word). Fine w.token)

  past_fine : (a : List Word) → AllFine a → AllFine (past a)
  past_fine [] h = tt
  past_fine (w ∷ a) h = h.1

  takes : {m : Mark} {a b : List Word} → Takes m a b → AllFine a → AllFine b
  takes {a = a} (took e) h = past_fine a h

  calls : {x : Name} {a b : List Word} → Calls x a b → AllFine a → AllFine b
  calls {a = a} (called e) h = past_fine a h

  counts : {n : ℕ} {a b : List Word} → Counts n a b → AllFine a → q n × AllFine b
  counts {n} {a} (counted e) h = grind arith

  -- under d binders and after m entries, the sorts by q
  module _ (m : ℕ) where
    abbrev Stands : ℕ → Term → Type 0
    Stands d (sort p s) = q s
    Stands d (local p k) = k < d
    Stands d (entry p j) = j < m
    Stands d (unary p u E) = Stands (binds u + d) E
    Stands d (binary p b E F) = Stands d E × Stands (binds_last b + d) F
    Stands d (choice p E F G) = Stands d E × Stands (1 + d) F × Stands (1 + d) G

    -- a term, and the words left after it
    record Stood (d : ℕ) (t : Term) (z : List Word) : Type 0 where
      is : Stands d t
      left : AllFine z

    flat : {d : ℕ} {t : Term} {z : List Word} → Stood d t z → Stands (0 + d) t
    flat {d} {t} r = grind arith

    under : {d : ℕ} {t : Term} {z : List Word} → Stood (suc d) t z → Stands (1 + d) t
    under {d} {t} r = grind arith

    under_two : {d : ℕ} {t : Term} {z : List Word} → Stood (suc (suc d)) t z → Stands (2 + d) t
    under_two {d} {t} r = grind arith

    shut : (d : ℕ) (t : Term) → Stands d t → closed d t ≡ true
    shut d (sort p s) h = refl
    shut d (local p k) h = ap not (lt-leb d k h)
    shut d (entry p j) h = refl
    shut d (unary p u E) h = shut (binds u + d) E h
    shut d (binary p b E F) h = grind (arith, shut d E h.0, shut (binds_last b + d) F h.1)
    shut d (choice p E F G) h = grind (arith, shut d E h.0, shut (1 + d) F h.1, shut (1 + d) G h.2)

  module _ (entries : List Name) (end : ℕ) (none : q 0) (one : q 1) where
    abbrev m : ℕ
    m = length entries

    abbrev Standing : List Name → Term → Type 0
    Standing sc = Stands m (length sc)

    -- what the arguments are of
    abbrev Held : Sign → List Name → Type 0
    Held expr sc = Unit {0}
    Held sums sc = Unit {0}
    Held products sc = Unit {0}
    Held application sc = Unit {0}
    Held (arguments E) sc = Standing sc E
    Held atom sc = Unit {0}

    stands : {g : Sign} {sc : List Name} {a z : List Word} {t : Term} → Phrase entries end g sc a z t → Held g sc → AllFine a → Stood m (length sc) t z
    stands (a_function i j k p) o h = grind (arith, stands p tt (takes k (calls j (takes i h))))
    stands (a_typed_function i j k l p n y s) o h =
        let r = stands p tt (takes l (calls k (takes j (takes i h)))) in
        let v = stands s tt (takes y (takes n r.left)) in
        record { is = (r.is, under m v); left = v.left }
    stands (a_pi i j k l p n y s) o h =
        let r = stands p tt (takes l (calls k (takes j (takes i h)))) in
        let v = stands s tt (takes y (takes n r.left)) in
        record { is = (r.is, under m v); left = v.left }
    stands (a_forall i j k l p n y s) o h =
        let r = stands p tt (takes l (calls k (takes j (takes i h)))) in
        let v = stands s tt (takes y (takes n r.left)) in
        record { is = (r.is, under m v); left = v.left }
    stands (a_sigma i j k l p n y s) o h =
        let r = stands p tt (takes l (calls k (takes j (takes i h)))) in
        let v = stands s tt (takes y (takes n r.left)) in
        record { is = (r.is, under m v); left = v.left }
    stands (an_exists i j k l p n y s) o h =
        let r = stands p tt (takes l (calls k (takes j (takes i h)))) in
        let v = stands s tt (takes y (takes n r.left)) in
        record { is = (r.is, under m v); left = v.left }
    stands (a_let i j k p l s) o h =
        let r = stands p tt (takes k (calls j (takes i h))) in
        let v = stands s tt (takes l r.left) in
        record { is = (r.is, under m v); left = v.left }
    stands (a_typed_let i j k p l s n y) o h =
        let r = stands p tt (takes k (calls j (takes i h))) in
        let v = stands s tt (takes l r.left) in
        let w = stands y tt (takes n v.left) in
        record { is = ((v.is, flat m r), under m w); left = w.left }
    stands (an_unpack i j k l n s u p v₁ y) o h =
        let r = stands p tt (takes u (takes s (calls n (takes l (calls k (takes j (takes i h))))))) in
        let v = stands y tt (takes v₁ r.left) in
        record { is = (r.is, under_two m v); left = v.left }
    stands (no_arrow p) o h = stands p tt h
    stands (an_arrow p i s) o h =
        let r = stands p tt (h) in
        let v = stands s tt (takes i r.left) in
        record { is = (r.is, under m v); left = v.left }
    stands (no_plus p) o h = stands p tt h
    stands (a_sum p i s) o h =
        let r = stands p tt (h) in
        let v = stands s tt (takes i r.left) in
        record { is = (r.is, flat m v); left = v.left }
    stands (no_times p) o h = stands p tt h
    stands (a_product p i s) o h =
        let r = stands p tt (h) in
        let v = stands s tt (takes i r.left) in
        record { is = (r.is, under m v); left = v.left }
    stands (by_atom p s) o h = let r = stands p tt h in stands s r.is r.left
    stands (by_fst i p s) o h = let r = stands p tt (takes i h) in stands s (flat m r) r.left
    stands (by_snd i p s) o h = let r = stands p tt (takes i h) in stands s (flat m r) r.left
    stands (by_inl i p s) o h = let r = stands p tt (takes i h) in stands s (flat m r) r.left
    stands (by_inr i p s) o h = let r = stands p tt (takes i h) in stands s (flat m r) r.left
    stands no_more o h = record { is = o; left = h }
    stands (one_more p s) o h = let r = stands p tt h in stands s (o, flat m r) r.left
    stands (a_local {sc = sc} {x = x} c e) o h = record { is = subst (Within (length sc)) e (find_within x sc); left = calls c h }
    stands (an_entry {x = x} c e f) o h = record { is = subst (Within m) f (entry_within x entries); left = calls c h }
    stands (a_type i) o h = record { is = none; left = takes i h }
    stands (a_prop i) o h = record { is = none; left = takes i h }
    stands (a_kind i) o h = record { is = one; left = takes i h }
    stands (a_sort i n) o h = let v = counts n (takes i h) in record { is = v.0; left = v.1 }
    stands (a_group i p j) o h = let r = stands p tt (takes i h) in record { is = r.is; left = takes j r.left }
    stands (an_ascription i p j s k) o h =
        let r = stands p tt (takes i h) in
        let v = stands s tt (takes j r.left) in
        record { is = (r.is, flat m v); left = takes k v.left }
    stands (a_pair i p j s k) o h =
        let r = stands p tt (takes i h) in
        let v = stands s tt (takes j r.left) in
        record { is = (r.is, flat m v); left = takes k v.left }
    stands (a_pack i p j s k) o h =
        let r = stands p tt (takes i h) in
        let v = stands s tt (takes j r.left) in
        record { is = (r.is, flat m v); left = takes k v.left }
    stands (a_match i p j k l n s y u x b c d e) o h =
        let r = stands p tt (takes i h) in
        let v = stands y tt (takes s (calls n (takes l (takes k (takes j r.left))))) in
        let w = stands d tt (takes c (calls b (takes x (takes u v.left)))) in
        record { is = (r.is, under m v, under m w); left = takes e w.left }
    stands (a_turned_match i p j k l n s y u x b c d e) o h =
        let r = stands p tt (takes i h) in
        let v = stands y tt (takes s (calls n (takes l (takes k (takes j r.left))))) in
        let w = stands d tt (takes c (calls b (takes x (takes u v.left)))) in
        record { is = (r.is, under m w, under m v); left = takes e w.left }

    enters : {a b : List Word} → Enters entries a b → AllFine a → AllFine b
    enters n h = calls n.calls h

    sentence : {k : StatementKind} {a : List Word} {t : Term} → Sentence entries end k a t → AllFine a → Stands m 0 t
    sentence (a_def n i p) h = (stands p tt (takes i (enters n h))).is
    sentence (a_typed_def n i p j s) h =
        let r = stands p tt (takes i (enters n h)) in
        let v = stands s tt (takes j r.left) in
        (v.is, flat m r)
    sentence (an_axiom n i p) h = (stands p tt (takes i (enters n h))).is
    sentence (a_check p) h = (stands p tt h).is
    sentence (an_eval p) h = (stands p tt h).is

    stated : (ws us : List Word) (t : Term) → States entries end ws (tree t us) → AllFine ws → Stands m 0 t
    stated ws us t d h = sentence (read_sentences entries end ws us t d).sentence (past_fine ws h)

-- with no condition on numbers
any_fine : (ws : List Word) → AllFine (λ n. Unit {0}) ws
any_fine [] = tt
any_fine (w ∷ ws) = grind (arith, any_fine ws)

pub read_closed : ReadClosed
read_closed entries end ws us t d =
    shut (λ n. Unit {0}) (length entries) 0 t (stated (λ n. Unit {0}) entries end tt tt ws us t d (any_fine ws))

low_fine : (x : Token) → Low x → Fine (λ n. n ≤ 65535) x
low_fine x h = grind arith

bounded : (m d : ℕ) (t : Term) → Stands (λ n. n ≤ 65535) m d t → Bounded m t
bounded m d (sort p s) h = h
bounded m d (local p k) h = tt
bounded m d (entry p j) h = h
bounded m d (unary p u E) h = bounded m (binds u + d) E h
bounded m d (binary p b E F) h = (bounded m d E h.0, bounded m (binds_last b + d) F h.1)
bounded m d (choice p E F G) h = (bounded m d E h.0, bounded m (1 + d) F h.1, bounded m (1 + d) G h.2)

pub read_bounded : ReadBounded
read_bounded entries end ws us t l d =
    bounded (length entries) 0 t
    (stated (λ n. n ≤ 65535) entries end (omega arith) (omega arith) ws us t d
    (All-weaker (λ (w : Word). Low w.token) (λ (w : Word). Fine (λ n. n ≤ 65535) w.token) (λ w. low_fine w.token) ws l))
