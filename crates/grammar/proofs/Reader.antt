-- A list of words has one reading, and the function finds it.
use Rattle.std.proofs.Common.{◌≡◌, ℕ, zero, suc, ◌+◌, ◌*◌, ◌<◌, ◌≤◌, Bool, true, false, cond, List, [], ◌∷◌, length, Some, None, Option, refl, ap, ◌∙◌, subst, subst₂, arith}
use Rattle.script.specs.declared.token.Mark.{Mark}
use Rattle.script.specs.declared.statement.StatementKind.{StatementKind}
use Rattle.term.specs.declared.node.Binary.TheVariants.{App}
use Rattle.term.specs.Term.{Term, place, binary}
use Rattle.grammar.specs.Words.{Word}
use Rattle.grammar.specs.Grammar.{Name, Sign, expr, sums, products, application, atom, arguments, Steps, give, refuse, misfit, ending, next, a_name, a_number, part, is, next_name, next_number, past, here, production, Reading, tree, refusal, Follows, Reads}
use Rattle.grammar.specs.Grammar.Follows.{given, refused, unfit, ended, overrun, passed, turned, named, nameless, numbered, numberless, parted, broken}
use Rattle.grammar.specs.Statements.{kind_of, name_place, statement, States, OneStatement}
use Rattle.grammar.specs.Statements.States.{of_kind, of_none}
use Rattle.grammar.specs.Reader.{by_test, by_found, on_from, follow, reading, OneReading}

module _ (entries : List Name) (end : ℕ) where
  pub unique : {s : Steps} {ws : List Word} {r : Reading} → Follows entries end s ws r → {q : Reading} → Follows entries end s ws q → r ≡ q
  unique given given = refl
  unique refused refused = refl
  unique (ended d) (ended d') = unique d d'
  unique overrun overrun = refl
  unique unfit unfit = refl
  unique (passed e d) (passed e' d') = unique d d'
  unique (passed e d) (turned e' d') = cc
  unique (turned e d) (passed e' d') = cc
  unique (turned e d) (turned e' d') = unique d d'
  unique {ws = ws} (named {f = f} e d) {q} (named e' d') = unique d (subst (λ x. Follows entries end (f x) (past ws) q) (cc) d')
  unique (named e d) (nameless e' d') = cc
  unique (nameless e d) (named e' d') = cc
  unique (nameless e d) (nameless e' d') = unique d d'
  unique {ws = ws} (numbered {f = f} e d) {q} (numbered e' d') = unique d (subst (λ x. Follows entries end (f x) (past ws) q) (cc) d')
  unique (numbered e d) (numberless e') = cc
  unique (numberless e) (numbered e' d') = cc
  unique (numberless e) (numberless e') = refl
  unique (parted {f = f} d k) {q} (parted d' k') =
      let e = unique d d' in
      unique k (subst₂ (λ t us. Follows entries end (f t) us q) (cc) (cc) k')
  unique (parted d k) (broken d') = cc (unique d d')
  unique (broken d) (parted d' k') = cc (unique d d')
  unique (broken d) (broken d') = unique d d'

  -- a reading that is found is one by the relation
  abbrev Told : Steps → List Word → Option Reading → Type 0
  Told s ws o = (r : Reading) → o ≡ Some r → Follows entries end s ws r

  at_test : (m : Mark) (s z : Steps) (ws : List Word) (b : Bool) (x y : Unit {0} → Option Reading) → is m ws ≡ b → Told s (past ws) (x tt) → Told z ws (y tt) → Told (next m s z) ws (by_test b x y)
  at_test m s z ws true x y e h k = λ r g. passed e (h r g)
  at_test m s z ws false x y e h k = λ r g. turned e (k r g)

  at_name : (f : Name → Steps) (z : Steps) (ws : List Word) (b : Option Name) (x : Name → Option Reading) (y : Unit {0} → Option Reading) → next_name ws ≡ b → ((n : Name) → Told (f n) (past ws) (x n)) → Told z ws (y tt) → Told (a_name f z) ws (by_found b x y)
  at_name f z ws (Some n) x y e h k = λ r g. named e (h n r g)
  at_name f z ws None x y e h k = λ r g. nameless e (k r g)

  at_number : (f : ℕ → Steps) (ws : List Word) (b : Option ℕ) (x : ℕ → Option Reading) → next_number ws ≡ b → ((n : ℕ) → Told (f n) (past ws) (x n)) → Told (a_number f) ws (by_found b x (λ u. Some (refusal 3 (here end ws))))
  at_number f ws (Some n) x e h = λ r g. numbered e (h n r g)
  at_number f ws None x e h = λ r g. subst (Follows entries end (a_number f) ws) (cc) (numberless e)

  at_part : (g : Sign) (sc : List Name) (f : Term → Steps) (ws : List Word) (o : Option Reading) (x : Term → List Word → Option Reading) → Told (production entries end g sc ws) ws o → ((t : Term) (us : List Word) → Told (f t) us (x t us)) → Told (part g sc f) ws (on_from o x)
  at_part g sc f ws None x h k = λ r e. cc
  at_part g sc f ws (Some (tree t us)) x h k = λ r e. parted (h (tree t us) refl) (k t us r e)
  at_part g sc f ws (Some (refusal n p)) x h k = λ r e. subst (Follows entries end (part g sc f) ws) (cc) (broken (h (refusal n p) refl))

  follow_told : (ask : Sign → List Name → List Word → Option Reading) → ((g : Sign) (sc : List Name) (ws : List Word) → Told (production entries end g sc ws) ws (ask g sc ws)) → (s : Steps) (ws : List Word) → Told s ws (follow entries end ask s ws)
  follow_told ask h (give t) ws = λ r e. subst (Follows entries end (give t) ws) (cc) given
  follow_told ask h (refuse n p) ws = λ r e. subst (Follows entries end (refuse n p) ws) (cc) refused
  follow_told ask h (ending s) [] = λ r e. ended (follow_told ask h s [] r e)
  follow_told ask h (ending s) (w ∷ ws) = λ r e. subst (Follows entries end (ending s) (w ∷ ws)) (cc) overrun
  follow_told ask h misfit ws = λ r e. subst (Follows entries end misfit ws) (cc) unfit
  follow_told ask h (next m s z) ws = at_test m s z ws (is m ws) _ _ refl (follow_told ask h s (past ws)) (follow_told ask h z ws)
  follow_told ask h (a_name f z) ws = at_name f z ws (next_name ws) _ _ refl (λ n. follow_told ask h (f n) (past ws)) (follow_told ask h z ws)
  follow_told ask h (a_number f) ws = at_number f ws (next_number ws) _ refl (λ n. follow_told ask h (f n) (past ws))
  follow_told ask h (part g sc f) ws = at_part g sc f ws (ask g sc ws) _ (h g sc ws) (λ t us. follow_told ask h (f t) us)

  pub reading_told : (n : ℕ) (g : Sign) (sc : List Name) (ws : List Word) (r : Reading) → reading entries end n g sc ws ≡ Some r → Reads entries end g sc ws r
  reading_told zero g sc ws r e = cc
  reading_told (suc n) g sc ws r e = grind (arith, reading_told n, follow_told)

-- how many signs may open before a word is passed
abbrev pub weight : Sign → ℕ
weight expr = 6
weight sums = 5
weight products = 4
weight application = 3
weight (arguments E) = 1
weight atom = 0

-- the signs that pass a word
abbrev pub Passing : Sign → Type 0
Passing expr = Unit {0}
Passing sums = Unit {0}
Passing products = Unit {0}
Passing application = Unit {0}
Passing (arguments E) = ⊥
Passing atom = Unit {0}

-- the steps give nothing before they pass a word
abbrev pub Eats : Steps → Type 0
Eats (give t) = ⊥
Eats (refuse n p) = Unit {0}
Eats (ending s) = Eats s
Eats misfit = Unit {0}
Eats (next m s z) = Eats z
Eats (a_name f z) = Eats z
Eats (a_number f) = Unit {0}
Eats (part g sc f) = Passing g

past_mark : (m : Mark) (ws : List Word) → is m ws ≡ true → length (past ws) < length ws
past_mark m ws e = grind arith

past_name : (ws : List Word) (x : Name) → next_name ws ≡ Some x → length (past ws) < length ws
past_name ws x e = grind arith

past_number : (ws : List Word) (x : ℕ) → next_number ws ≡ Some x → length (past ws) < length ws
past_number ws x e = grind arith

module _ (entries : List Name) (end : ℕ) where
  pub eats : (g : Sign) (sc : List Name) (ws : List Word) → Passing g → Eats (production entries end g sc ws)
  eats expr sc ws h = tt
  eats sums sc ws h = tt
  eats products sc ws h = tt
  eats application sc ws h = tt
  eats (arguments E) sc ws h = absurd h
  eats atom sc ws h = tt

  -- the words left are no more than there were
  pub shrinks : {s : Steps} {ws us : List Word} {t : Term} → Follows entries end s ws (tree t us) → length us ≤ length ws
  shrinks given = omega arith
  shrinks (ended d) = shrinks d
  shrinks {ws = ws} (passed {m = m} e d) = omega (arith, past_mark m ws e, shrinks d)
  shrinks (turned e d) = shrinks d
  shrinks {ws = ws} (named {x = x} e d) = omega (arith, past_name ws x e, shrinks d)
  shrinks (nameless e d) = shrinks d
  shrinks {ws = ws} (numbered {n = n} e d) = omega (arith, past_number ws n e, shrinks d)
  shrinks (parted d k) = omega (arith, shrinks d, shrinks k)

  pub eaten : {s : Steps} {ws us : List Word} {t : Term} → Follows entries end s ws (tree t us) → Eats s → length us < length ws
  eaten given h = absurd h
  eaten (ended d) h = eaten d h
  eaten {ws = ws} (passed {m = m} e d) h = omega (arith, past_mark m ws e, shrinks d)
  eaten (turned e d) h = eaten d h
  eaten {ws = ws} (named {x = x} e d) h = omega (arith, past_name ws x e, shrinks d)
  eaten (nameless e d) h = eaten d h
  eaten {ws = ws} (numbered {n = n} e d) h = omega (arith, past_number ws n e, shrinks d)
  eaten {ws = ws} (parted {g = g} {sc = sc} d k) h = omega (arith, eaten d (eats g sc ws h), shrinks k)

-- with l words to come, n nested calls suffice for the steps
data Safe (n : ℕ) : ℕ → Steps → Type 0 where
  at_give : {l : ℕ} {t : Term} → Safe n l (give t)
  at_refuse : {l m p : ℕ} → Safe n l (refuse m p)
  at_ending : {l : ℕ} {s : Steps} → Safe n l s → Safe n l (ending s)
  at_misfit : {l : ℕ} → Safe n l misfit
  at_next : {l : ℕ} {m : Mark} {s z : Steps} → ((k : ℕ) → k < l → Safe n k s) → Safe n l z → Safe n l (next m s z)
  at_a_name : {l : ℕ} {f : Name → Steps} {z : Steps} → ((x : Name) (k : ℕ) → k < l → Safe n k (f x)) → Safe n l z → Safe n l (a_name f z)
  at_a_number : {l : ℕ} {f : ℕ → Steps} → ((x k : ℕ) → k < l → Safe n k (f x)) → Safe n l (a_number f)
  at_a_part : {l : ℕ} {g : Sign} {sc : List Name} {f : Term → Steps} → 8 * l + weight g < n → ((t : Term) (k : ℕ) → k ≤ l → (Passing g → k < l) → Safe n k (f t)) → Safe n l (part g sc f)

light : (g : Sign) → weight g ≤ 6
light g = grind arith

safe_all : (s : Steps) (n l : ℕ) → 8 * l + 6 < n → Safe n l s
safe_all (give t) n l h = at_give
safe_all (refuse m p) n l h = at_refuse
safe_all (ending s) n l h = at_ending (safe_all s n l h)
safe_all misfit n l h = at_misfit
safe_all (next m s z) n l h = at_next (λ k e. safe_all s n k (omega arith)) (safe_all z n l h)
safe_all (a_name f z) n l h = at_a_name (λ x k e. safe_all (f x) n k (omega arith)) (safe_all z n l h)
safe_all (a_number f) n l h = at_a_number (λ x k e. safe_all (f x) n k (omega arith))
safe_all (part g sc f) n l h = at_a_part (omega (arith, light g)) (λ t k e p. safe_all (f t) n k (omega arith))

-- once a word is passed, any steps are safe
safe_past : {s : Steps} (n l : ℕ) → 8 * l ≤ n → (k : ℕ) → k < l → Safe n k s
safe_past {s} n l h k e = safe_all s n k (omega arith)

abbrev Answered : Option Reading → Type 0
Answered o = (r : Reading) × (o ≡ Some r)

module _ (entries : List Name) (end : ℕ) where
  safe_arguments : (b : Bool) (E : Term) (sc : List Name) (n l : ℕ) → 8 * l + 1 < suc n → Safe n l (cond b (part atom sc (λ F. part (arguments (binary (place E) App E F)) sc give)) (give E))
  safe_arguments b E sc n l h = grind (arith, at_give, at_a_part, safe_past)

  safe : (g : Sign) (sc : List Name) (ws : List Word) (n : ℕ) → 8 * length ws + weight g < suc n → Safe n (length ws) (production entries end g sc ws)
  safe g sc ws n h = grind (arith, at_next, at_a_name, at_a_part, at_misfit, safe_past, safe_arguments)

  some_test : (b : Bool) (x y : Unit {0} → Option Reading) → (b ≡ true → Answered (x tt)) → Answered (y tt) → Answered (by_test b x y)
  some_test b x y h k = grind arith

  some_found : {A : Type 0} (b : Option A) (x : A → Option Reading) (y : Unit {0} → Option Reading) → ((a : A) → b ≡ Some a → Answered (x a)) → Answered (y tt) → Answered (by_found b x y)
  some_found (Some a) x y h k = h a refl
  some_found None x y h k = k

  some_on : (o : Option Reading) (x : Term → List Word → Option Reading) → Answered o → ((t : Term) (us : List Word) → o ≡ Some (tree t us) → Answered (x t us)) → Answered (on_from o x)
  some_on None x h k = cc
  some_on (Some (tree t us)) x h k = k t us refl
  some_on (Some (refusal n p)) x h k = (refusal n p, refl)

  module _ (n : ℕ) (ask_some : (g : Sign) (sc : List Name) (ws : List Word) → 8 * length ws + weight g < n → Answered (reading entries end n g sc ws)) where
    follow_some : (s : Steps) (ws : List Word) → Safe n (length ws) s → Answered (follow entries end (reading entries end n) s ws)
    follow_some (give t) ws h = (tree t ws, refl)
    follow_some (refuse m p) ws h = (refusal m p, refl)
    follow_some (ending s) [] (at_ending h) = follow_some s [] h
    follow_some (ending s) (w ∷ ws) h = (refusal 3 w.at, refl)
    follow_some misfit ws h = (refusal 3 (here end ws), refl)
    follow_some (next m s z) ws (at_next h k) = some_test (is m ws) _ _ (λ e. follow_some s (past ws) (h _ (past_mark m ws e))) (follow_some z ws k)
    follow_some (a_name f z) ws (at_a_name h k) = some_found (next_name ws) _ _ (λ x e. follow_some (f x) (past ws) (h x _ (past_name ws x e))) (follow_some z ws k)
    follow_some (a_number f) ws (at_a_number h) = some_found (next_number ws) _ _ (λ x e. follow_some (f x) (past ws) (h x _ (past_number ws x e))) (refusal 3 (here end ws), refl)
    follow_some (part g sc f) ws (at_a_part h k) =
        some_on (reading entries end n g sc ws) _ (ask_some g sc ws h)
        (λ t us e. let d = reading_told entries end n g sc ws (tree t us) e in follow_some (f t) us (k t (length us) (shrinks entries end d) (λ p. eaten entries end d (eats entries end g sc ws p))))

  pub reading_some : (n : ℕ) (g : Sign) (sc : List Name) (ws : List Word) → 8 * length ws + weight g < n → Answered (reading entries end n g sc ws)
  reading_some zero g sc ws h = absurd (omega arith)
  reading_some (suc n) g sc ws h = follow_some n (reading_some n) (production entries end g sc ws) ws (safe g sc ws n h)

  -- with enough nesting the function tells the reading
  pub reading_reads : (n : ℕ) (g : Sign) (sc : List Name) (ws : List Word) (r : Reading) → 8 * length ws + weight g < n → Reads entries end g sc ws r → reading entries end n g sc ws ≡ Some r
  reading_reads n g sc ws r h d = let s = reading_some n g sc ws h in s.1 ∙ ap Some (unique entries end (reading_told entries end n g sc ws s.0 s.1) d)

pub one_reading : OneReading
one_reading entries end g sc ws =
    let n = suc (8 * length ws + weight g) in
    let s = reading_some entries end n g sc ws (omega arith) in
    let d = reading_told entries end n g sc ws s.0 s.1 in
    (s.0, d, λ q e. unique entries end e d)

-- steps lead from words to one reading
pub one_following : (entries : List Name) (end : ℕ) (s : Steps) (ws : List Word) → (r : Reading) × Follows entries end s ws r × ((q : Reading) → Follows entries end s ws q → q ≡ r)
one_following entries end s ws =
    let n = suc (8 * length ws + 6) in
    let a = follow_some entries end n (reading_some entries end n) s ws (safe_all s n (length ws) (omega arith)) in
    let d = follow_told entries end (reading entries end n) (reading_told entries end n) s ws a.0 a.1 in
    (a.0, d, λ q e. unique entries end e d)

module _ (entries : List Name) (end : ℕ) (ws : List Word) where
  none_same : kind_of ws ≡ None → (q : Reading) → States entries end ws q → q ≡ refusal 3 (here end ws)
  none_same e q h = grind arith

  kind_same : {k : StatementKind} {r : Reading} → kind_of ws ≡ Some k → ((q : Reading) → Follows entries end (statement k entries (name_place end ws)) (past ws) q → q ≡ r) → (q : Reading) → States entries end ws q → q ≡ r
  kind_same e h q k = grind arith

  stated : (o : Option StatementKind) → kind_of ws ≡ o → (r : Reading) × States entries end ws r × ((q : Reading) → States entries end ws q → q ≡ r)
  stated None e = (refusal 3 (here end ws), of_none e, none_same e)
  stated (Some k) e =
      let s = one_following entries end (statement k entries (name_place end ws)) (past ws) in
      (s.0, of_kind e s.1, kind_same e s.2)

pub one_statement : OneStatement
one_statement entries end ws = stated entries end ws (kind_of ws) refl
