-- Reading looks at no word past the next one: what is read stays read, and what is refused stays
-- refused, whatever comes later.
use Rattle.std.proofs.Common.{◌≡◌, ℕ, Bool, false, cond, ◌⊎◌, List, [], ◌∷◌, ◌++◌, None, Option, sym, refl, ap, ◌∙◌, subst, inl, inr, append_assoc, arith}
use Rattle.script.specs.declared.token.Mark.{Mark}
use Rattle.script.specs.declared.token.Mark.TheVariants.{Closes}
use Rattle.term.specs.declared.node.Binary.TheVariants.{App}
use Rattle.term.specs.Term.{Term, binary, place}
use Rattle.grammar.specs.Words.{Word}
use Rattle.grammar.specs.Grammar.{Name, Sign, expr, sums, products, application, atom, arguments, Steps, give, refuse, ending, next, a_name, a_number, part, here, is, begins, goes_on, next_name, next_number, production, Reading, tree, refusal, Follows}
use Rattle.grammar.specs.Grammar.Follows.{given, refused, unfit, ended, overrun, passed, turned, named, nameless, numbered, numberless, parted, broken}
use Rattle.grammar.specs.Misfit.{AllWritable}
use Rattle.grammar.proofs.Completing.{Joins, marked, Done, Ends, Fair, production_fair}
use Rattle.grammar.proofs.Completing.Fair.{fair_refuse, fair_ending, fair_next, fair_name, fair_number, fair_part}
use Rattle.grammar.proofs.Reader.{Eats, eats, eaten}

-- each test that may fail at an expression's end and fails at z fails at v
pub record Like (z v : List Word) : Type 0 where
  pub beginning : begins z ≡ false → begins v ≡ false
  pub joining : (m : Mark) → Joins m → is m z ≡ false → is m v ≡ false

like_quiet : (z v : List Word) → goes_on v ≡ false → Like z v
like_quiet z v h = grind arith

like_first : (w : Word) (a b : List Word) → Like (w ∷ a) (w ∷ b)
like_first w a b = grind arith

like_front : (u z v : List Word) → Like z v → Like (u ++ z) (u ++ v)
like_front [] z v l = l
like_front (w ∷ u) z v l = like_first w (u ++ z) (u ++ v)

-- words that pass, since they do not go on with an expression
abbrev pub Quiet : List Word → Type 0
Quiet v = goes_on v ≡ false

module _ (entries : List Name) (end : ℕ) where
  production_first : (g : Sign) (sc : List Name) (w : Word) (a b : List Word) → production entries end g sc (w ∷ a) ≡ production entries end g sc (w ∷ b)
  production_first g sc w a b = grind arith

  abbrev fork : Bool → Term → List Name → Steps
  fork b E sc = cond b (part atom sc (λ F. part (arguments (binary (place E) App E F)) sc give)) (give E)

  no_argument : (b : Bool) (E : Term) (sc : List Name) (x z : List Word) (t : Term) → x ≡ z → Follows entries end (fork b E sc) x (tree t z) → b ≡ false
  no_argument b E sc x z t e d = grind (arith, eaten)

  -- a production that passed no word asks the same before v
  production_empty : (g : Sign) (sc : List Name) (x z v : List Word) (t : Term) → x ≡ z → Follows entries end (production entries end g sc x) x (tree t z) → Like z v → production entries end g sc x ≡ production entries end g sc v
  production_empty expr sc x z v t e d l = grind (arith, eaten, eats)
  production_empty sums sc x z v t e d l = grind arith
  production_empty products sc x z v t e d l = grind arith
  production_empty application sc x z v t e d l = grind (arith, eaten, eats)
  production_empty atom sc x z v t e d l = grind (arith, eaten, eats)
  production_empty (arguments E) sc x z v t e d l =
      let b : begins x ≡ false = no_argument (begins x) E sc x z t e d in
      ap (λ c. fork c E sc) (b ∙ sym (l.beginning (ap begins (sym e) ∙ b)))

  production_same : (g : Sign) (sc : List Name) (x u z v : List Word) (t : Term) → x ≡ u ++ z → Follows entries end (production entries end g sc x) x (tree t z) → Like z v → production entries end g sc x ≡ production entries end g sc (u ++ v)
  production_same g sc x [] z v t e d l = production_empty g sc x z v t e d l
  production_same g sc x (w ∷ u) z v t e d l = grind arith

  -- the steps lead from x to z by the words of front, and do so before all that is like z
  pub record Framed (s : Steps) (x z : List Word) (t : Term) : Type 0 where
    pub front : List Word
    pub whole : x ≡ front ++ z
    pub again : (v : List Word) → Like z v → Follows entries end s (front ++ v) (tree t v)

  is_still : (m : Mark) (s : Steps) (x u z v : List Word) (t : Term) → is m x ≡ false → x ≡ u ++ z → Joins m ⊎ Eats s → Follows entries end s x (tree t z) → Like z v → is m (u ++ v) ≡ false
  is_still m s x [] z v t e w h d l = grind (arith, eaten)
  is_still m s x (y ∷ u) z v t e w h d l = grind arith

  name_still : (s : Steps) (x u z v : List Word) (t : Term) → next_name x ≡ None → x ≡ u ++ z → Eats s → Follows entries end s x (tree t z) → next_name (u ++ v) ≡ None
  name_still s x [] z v t e w h d = grind (arith, eaten)
  name_still s x (y ∷ u) z v t e w h d = grind arith

  ended_not : (s : Steps) → ((v : List Word) → Quiet v → v ≡ []) → ⊥
  ended_not s h = let e = h (marked Closes ∷ []) refl in cc

  pub frame : (s : Steps) (x : List Word) {z : List Word} {t : Term} → Follows entries end s x (tree t z) → Fair entries end Quiet s → Framed s x z t
  frame s x given f = record { front = []; whole = refl; again = λ v l. given }
  frame s x (ended d) (fair_ending h f) = absurd (ended_not s h)
  frame s [] (passed e d) f = cc
  frame (next m s q) (w ∷ x) (passed e d) (fair_next f g h i) =
      let r = frame s x d f in
      record { front = w ∷ r.front; whole = ap (λ y. w ∷ y) r.whole; again = λ v l. passed e (r.again v l) }
  frame (next m s q) x {z} {t} (turned e d) (fair_next f g h i) =
      let r = frame q x d h in
      record { front = r.front; whole = r.whole; again = λ v l. turned (is_still m q x r.front z v t e r.whole i d l) (r.again v l) }
  frame s [] (named e d) f = cc
  frame (a_name k q) (w ∷ x) (named {x = n} e d) (fair_name f g h i) =
      let r = frame (k n) x d (f n) in
      record { front = w ∷ r.front; whole = ap (λ y. w ∷ y) r.whole; again = λ v l. named e (r.again v l) }
  frame (a_name k q) x {z} {t} (nameless e d) (fair_name f g h i) =
      let r = frame q x d h in
      record { front = r.front; whole = r.whole; again = λ v l. nameless (name_still q x r.front z v t e r.whole i d) (r.again v l) }
  frame s [] (numbered e d) f = cc
  frame (a_number k) (w ∷ x) (numbered {n = n} e d) (fair_number f g) =
      let r = frame (k n) x d (f n) in
      record { front = w ∷ r.front; whole = ap (λ y. w ∷ y) r.whole; again = λ v l. numbered e (r.again v l) }
  frame (part g sc k) x {z} {t} (parted {t = u} {us = y} d b) (fair_part f h) =
      let r = frame (production entries end g sc x) x d (production_fair entries end Quiet (λ v q. q) g sc x) in
      let q = frame (k u) y b (f u) in
      record {
        front = r.front ++ q.front;
        whole = r.whole ∙ ap (λ y. r.front ++ y) q.whole ∙ sym (append_assoc r.front q.front z);
        again = λ v l.
            let m : Like y (q.front ++ v) = subst (λ y. Like y (q.front ++ v)) (sym q.whole) (like_front q.front z v l) in
            subst (λ y. Follows entries end (part g sc k) y (tree t v)) (sym (append_assoc r.front q.front v))
            (parted (subst (λ s. Follows entries end s (r.front ++ (q.front ++ v)) (tree u (q.front ++ v))) (production_same g sc x r.front y (q.front ++ v) u r.whole d m) (r.again (q.front ++ v) m)) (q.again v l));
      }

-- words b are passed and some more lead on to a term, before words that pass V
pub record Completed (entries : List Name) (end : ℕ) (V : List Word → Type 0) (s : Steps) (b : List Word) : Type 0 where
  pub more : List Word
  pub term : Term
  pub writable : AllWritable more
  pub reads : (v : List Word) → V v → Follows entries end s (b ++ (more ++ v)) (tree term v)

pub both_writable : (a b : List Word) → AllWritable a → AllWritable b → AllWritable (a ++ b)
both_writable [] b g h = h
both_writable (w ∷ a) b g h = (g.0, both_writable a b g.1 h)

is_first : (m : Mark) (b : List Word) (w : Word) (a c : List Word) {o : Bool} → is m (b ++ (w ∷ a)) ≡ o → is m (b ++ (w ∷ c)) ≡ o
is_first m [] w a c e = e
is_first m (y ∷ b) w a c e = e

name_first : (b : List Word) (w : Word) (a c : List Word) {o : Option Name} → next_name (b ++ (w ∷ a)) ≡ o → next_name (b ++ (w ∷ c)) ≡ o
name_first [] w a c e = e
name_first (y ∷ b) w a c e = e

nothing_left : (a b : List Word) → [] ≡ a ++ b → b ≡ []
nothing_left [] b e = sym e
nothing_left (w ∷ a) b e = cc

module _ (entries : List Name) (end : ℕ) where
  production_at : (g : Sign) (sc : List Name) (b : List Word) (w : Word) (a c : List Word) → production entries end g sc (b ++ (w ∷ a)) ≡ production entries end g sc (b ++ (w ∷ c))
  production_at g sc [] w a c = grind arith
  production_at g sc (y ∷ b) w a c = grind arith

module _ (entries : List Name) (end : ℕ) (V : List Word → Type 0) where
  -- where nothing is passed, who asks knows what completes the steps
  abbrev pub Can : Steps → List Word → Type 0
  Can s [] = Unit {0}
  Can s (w ∷ b) = Completed entries end V s (w ∷ b)

  -- the steps pass the words before, and none of them takes the next
  pub record Stuck (s : Steps) (x : List Word) (p : ℕ) : Type 0 where
    pub before : List Word
    pub after : List Word
    pub whole : x ≡ before ++ after
    pub place : p ≡ here end after
    pub stays : (w : Word) (rest : List Word) → after ≡ w ∷ rest → (c : List Word) → Follows entries end s (before ++ (w ∷ c)) (refusal 3 w.at)
    pub can : Can s before

  pub complete : (s : Steps) (b : List Word) → Can s b → Done entries end V s → Completed entries end V s b
  complete s [] c d = grind arith
  complete s (w ∷ b) c d = c

  can_be : (s : Steps) (b : List Word) → Completed entries end V s b → Can s b
  can_be s [] c = tt
  can_be s (w ∷ b) c = c

  can_turn : (m : Mark) (s q : Steps) (x b a : List Word) → is m x ≡ false → x ≡ b ++ a → Can q b → Can (next m s q) b
  can_turn m s q x [] a e w c = tt
  can_turn m s q x (y ∷ b) a e w c = record { more = c.more; writable = c.writable; term = c.term; reads = λ v h. turned (subst (λ y. is m y ≡ false) w e) (c.reads v h) }

  can_nameless : (k : Name → Steps) (q : Steps) (x b a : List Word) → next_name x ≡ None → x ≡ b ++ a → Can q b → Can (a_name k q) b
  can_nameless k q x [] a e w c = tt
  can_nameless k q x (y ∷ b) a e w c = record { more = c.more; writable = c.writable; term = c.term; reads = λ v h. nameless (subst (λ y. next_name y ≡ None) w e) (c.reads v h) }

module _ (entries : List Name) (end : ℕ) (V : List Word → Type 0) (g : Sign) (sc : List Name) (k : Term → Steps) (x : List Word) where
  -- a part that is stuck, completed
  can_broken : (b a : List Word) → x ≡ b ++ a → ((t : Term) → Ends entries end V (k t)) → Can entries end Quiet (production entries end g sc x) b → Can entries end V (part g sc k) b
  can_broken [] a e h c = tt
  can_broken (w ∷ b) a e h c =
      let d = h c.term in
      record {
        more = c.more ++ d.done.more;
        writable = both_writable c.more d.done.more c.writable d.done.writable;
        term = d.done.term;
        reads = λ v o.
            let y = d.done.more ++ v in
            subst (λ z. Follows entries end (part g sc k) (w ∷ (b ++ z)) (tree d.done.term v)) (sym (append_assoc c.more d.done.more v))
            (parted (subst (λ s. Follows entries end s (w ∷ (b ++ (c.more ++ y))) (tree c.term y)) (ap (production entries end g sc) e ∙ production_first entries end g sc w (b ++ a) (b ++ (c.more ++ y))) (c.reads y (d.quiet v o))) (d.done.reads v o));
      }

  -- a part that is read, and what goes on after it, before words like those that came
  part_again : {y : List Word} {t : Term} {r : Reading} (f : Framed entries end (production entries end g sc x) x y t) → Follows entries end (production entries end g sc x) x (tree t y) → (u v : List Word) → Like y (u ++ v) → Follows entries end (k t) (u ++ v) r → Follows entries end (part g sc k) ((f.front ++ u) ++ v) r
  part_again {y} {t} {r} f d u v l b =
      subst (λ z. Follows entries end (part g sc k) z r) (sym (append_assoc f.front u v))
      (parted (subst (λ s. Follows entries end s (f.front ++ (u ++ v)) (tree t (u ++ v))) (production_same entries end g sc x f.front y (u ++ v) t f.whole d l) (f.again (u ++ v) l)) b)

  -- and completed
  can_parted : {y : List Word} {t : Term} (f : Framed entries end (production entries end g sc x) x y t) → Follows entries end (production entries end g sc x) x (tree t y) → (b a : List Word) → y ≡ b ++ a → Ends entries end V (k t) → Can entries end V (k t) b → Completed entries end V (part g sc k) (f.front ++ b)
  can_parted {y} f d [] a e n c =
      record { more = n.done.more; writable = n.done.writable; term = n.done.term; reads = λ v o. part_again f d [] (n.done.more ++ v) (like_quiet y (n.done.more ++ v) (n.quiet v o)) (n.done.reads v o) }
  can_parted {y} f d (w ∷ b) a e n c =
      record { more = c.more; writable = c.writable; term = c.term; reads = λ v o. part_again f d (w ∷ b) (c.more ++ v) (subst (λ z. Like z ((w ∷ b) ++ (c.more ++ v))) (sym e) (like_first w (b ++ a) (b ++ (c.more ++ v)))) (c.reads v o) }

module _ (entries : List Name) (end : ℕ) where
  like_at : (y b : List Word) (w : Word) (a c : List Word) → y ≡ b ++ (w ∷ a) → Like y (b ++ (w ∷ c))
  like_at y b w a c e = grind (arith, like_front, like_first)

  pub stuck : (V : List Word → Type 0) (s : Steps) (x : List Word) {r : Reading} → Follows entries end s x r → (p : ℕ) → r ≡ refusal 3 p → Fair entries end V s → Stuck entries end V s x p
  stuck V s x given p o f = cc
  stuck V (refuse n q) x refused p o (fair_refuse h) = let e : n ≡ 3 = cc in absurd (h e)
  stuck V s x unfit p o f = record { before = []; after = x; whole = refl; place = cc; stays = λ w rest e c. unfit; can = tt }
  stuck V (ending s) x (ended d) p o (fair_ending h f) =
      let r = stuck V s [] d p o f in
      let n = nothing_left r.before r.after r.whole in
      record { before = []; after = []; whole = refl; place = r.place ∙ ap (here end) n; stays = λ w rest e c. (cc); can = tt }
  stuck V s x overrun p o f = record { before = []; after = x; whole = refl; place = cc; stays = λ w rest e c. overrun; can = tt }
  stuck V s [] (passed e d) p o f = cc
  stuck V (next m s q) (w ∷ x) (passed e d) p o (fair_next f g h i) =
      let r = stuck V s x d p o f in
      let c = complete entries end V s r.before r.can g in
      record {
        before = w ∷ r.before;
        after = r.after;
        whole = ap (λ y. w ∷ y) r.whole;
        place = r.place;
        stays = λ y rest n c. passed e (r.stays y rest n c);
        can = record { more = c.more; writable = c.writable; term = c.term; reads = λ v k. passed e (c.reads v k) };
      }
  stuck V (next m s q) x (turned e d) p o (fair_next f g h i) =
      let r = stuck V q x d p o h in
      record {
        before = r.before;
        after = r.after;
        whole = r.whole;
        place = r.place;
        stays = λ w rest n c. turned (is_first m r.before w rest c (subst (λ y. is m y ≡ false) (r.whole ∙ ap (λ a. r.before ++ a) n) e)) (r.stays w rest n c);
        can = can_turn entries end V m s q x r.before r.after e r.whole r.can;
      }
  stuck V s [] (named e d) p o f = cc
  stuck V (a_name k q) (w ∷ x) (named {x = n} e d) p o (fair_name f g h i) =
      let r = stuck V (k n) x d p o (f n) in
      let c = complete entries end V (k n) r.before r.can (elim (g n) [ inl j ↦ j | inr j ↦ absurd (j x _ p d o) ]) in
      record {
        before = w ∷ r.before;
        after = r.after;
        whole = ap (λ y. w ∷ y) r.whole;
        place = r.place;
        stays = λ y rest n c. named e (r.stays y rest n c);
        can = record { more = c.more; writable = c.writable; term = c.term; reads = λ v k. named e (c.reads v k) };
      }
  stuck V (a_name k q) x (nameless e d) p o (fair_name f g h i) =
      let r = stuck V q x d p o h in
      record {
        before = r.before;
        after = r.after;
        whole = r.whole;
        place = r.place;
        stays = λ w rest n c. nameless (name_first r.before w rest c (subst (λ y. next_name y ≡ None) (r.whole ∙ ap (λ a. r.before ++ a) n) e)) (r.stays w rest n c);
        can = can_nameless entries end V k q x r.before r.after e r.whole r.can;
      }
  stuck V s [] (numbered e d) p o f = cc
  stuck V (a_number k) (w ∷ x) (numbered {n = n} e d) p o (fair_number f g) =
      let r = stuck V (k n) x d p o (f n) in
      let c = complete entries end V (k n) r.before r.can (g n) in
      record {
        before = w ∷ r.before;
        after = r.after;
        whole = ap (λ y. w ∷ y) r.whole;
        place = r.place;
        stays = λ y rest n c. numbered e (r.stays y rest n c);
        can = record { more = c.more; writable = c.writable; term = c.term; reads = λ v k. numbered e (c.reads v k) };
      }
  stuck V (a_number k) x (numberless e) p o f =
      record { before = []; after = x; whole = refl; place = cc; stays = λ w rest n c. numberless (subst (λ y. next_number y ≡ None) n e); can = tt }
  stuck V (part g sc k) x (parted {t = u} {us = y} d b) p o (fair_part f h) =
      let t = frame entries end (production entries end g sc x) x d (production_fair entries end Quiet (λ v q. q) g sc x) in
      let r = stuck V (k u) y b p o (f u) in
      record {
        before = t.front ++ r.before;
        after = r.after;
        whole = t.whole ∙ ap (λ y. t.front ++ y) r.whole ∙ sym (append_assoc t.front r.before r.after);
        place = r.place;
        stays = λ w rest n c. part_again entries end V g sc k x t d r.before (w ∷ c) (like_at y r.before w rest c (r.whole ∙ ap (λ a. r.before ++ a) n)) (r.stays w rest n c);
        can = can_be entries end V (part g sc k) (t.front ++ r.before) (can_parted entries end V g sc k x t d r.before r.after r.whole (h u) r.can);
      }
  stuck V (part g sc k) x (broken d) p o (fair_part f h) =
      let r = stuck Quiet (production entries end g sc x) x d p o (production_fair entries end Quiet (λ v q. q) g sc x) in
      record {
        before = r.before;
        after = r.after;
        whole = r.whole;
        place = r.place;
        stays = λ w rest n c. broken (subst (λ s. Follows entries end s (r.before ++ (w ∷ c)) (refusal 3 w.at)) (ap (production entries end g sc) (r.whole ∙ ap (λ a. r.before ++ a) n) ∙ production_at entries end g sc r.before w rest c) (r.stays w rest n c));
        can = can_broken entries end V g sc k x r.before r.after r.whole h r.can;
      }
