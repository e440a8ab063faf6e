-- What is read so far can be completed: at each step some words lead on to a term.
use Rattle.std.proofs.Common.{◌≡◌, ℕ, Bool, true, false, cond, ◌⊎◌, List, [], ◌∷◌, ◌++◌, Some, None, codes, Option, refl, inl, inr, arith}
use Rattle.std.proofs.lemmas.Bool.{eq-eqb, or_parts}
use Rattle.script.specs.declared.token.Mark.{Mark}
use Rattle.script.specs.declared.token.Mark.TheVariants.{TypeWord, PropWord, KindWord, SortWord, Opens, OpensBrace, MatchWord, FstWord, SndWord, InlWord, InrWord, FunWord, PiWord, ForallWord, SigmaWord, ExistsWord, LetWord, Arrow, Plus, Times, Closes, ClosesBrace, Comma, Colon, Becomes, Maps, Bar, InWord, WithWord, EndWord}
use Rattle.script.specs.Marks.{code}
use Rattle.term.specs.declared.node.Binary.{Binary}
use Rattle.term.specs.declared.node.Binary.TheVariants.{App}
use Rattle.term.specs.Term.{Term, sort, binary, place}
use Rattle.grammar.specs.Words.{name, number, mark, Word}
use Rattle.grammar.specs.Grammar.{Name, Sign, expr, sums, products, application, atom, arguments, Steps, give, refuse, misfit, ending, next, a_name, a_number, part, eat, binder, typed, quantified, functions, lets, arm, matches, bracketed, meant, headed, find, find_entry, here, is, begins, goes_on, production, Reading, tree, refusal, Follows, Reads}
use Rattle.grammar.specs.Grammar.Follows.{given, refused, passed, turned, named, numbered, parted}
use Rattle.grammar.specs.Misfit.{AllWritable}
use Rattle.grammar.specs.Phrases.{took}
use Rattle.grammar.specs.Phrases.Phrase.{no_arrow, no_plus, no_times, by_atom, no_more, a_type}
use Rattle.grammar.specs.Text.{GoodName}
use Rattle.grammar.proofs.Atoms.{no_arguments}
use Rattle.grammar.proofs.Reader.{Passing, Eats}
use Rattle.grammar.proofs.Whole.{read}
use Rattle.grammar.proofs.Words.{put}

-- the marks that go on with an expression
pub data Joins : Mark → Type 0 where
  by_arrow : Joins Arrow
  by_plus : Joins Plus
  by_times : Joins Times

pub joins_not : {m : Mark} → Joins m → (v : List Word) → goes_on v ≡ false → is m v ≡ false
joins_not e v h = grind arith

abbrev pub marked : Mark → Word
marked m = put (mark m) 0

x_good : GoodName (codes "x")
x_good = grind arith

-- the word `Type` is an expression, and each part of one
pub type_reads : (entries : List Name) (end : ℕ) (g : Sign) (sc : List Name) (v : List Word) → Passing g → goes_on v ≡ false → Reads entries end g sc (marked TypeWord ∷ v) (tree (sort 0 0) v)
type_reads entries end expr sc v p h =
    read entries end (no_arrow (no_plus (no_times (by_atom (a_type (took refl)) no_more)))) ((or_parts (begins v) _ h).0, joins_not by_times v h, joins_not by_plus v h, joins_not by_arrow v h)
type_reads entries end sums sc v p h =
    read entries end (no_plus (no_times (by_atom (a_type (took refl)) no_more))) ((or_parts (begins v) _ h).0, joins_not by_times v h, joins_not by_plus v h)
type_reads entries end products sc v p h = read entries end (no_times (by_atom (a_type (took refl)) no_more)) ((or_parts (begins v) _ h).0, joins_not by_times v h)
type_reads entries end application sc v p h = read entries end (by_atom (a_type (took refl)) no_more) (or_parts (begins v) _ h).0
type_reads entries end atom sc v p h = read entries end {sc = sc} (a_type (took refl)) tt
type_reads entries end (arguments E) sc v p h = absurd p

module _ (entries : List Name) (end : ℕ) (V : List Word → Type 0) where
  -- some words complete the steps, before words that pass V
  pub record Done (s : Steps) : Type 0 where
    pub more : List Word
    pub term : Term
    pub writable : AllWritable more
    pub reads : (v : List Word) → V v → Follows entries end s (more ++ v) (tree term v)

  -- and they do not go on with an expression before them
  pub record Ends (s : Steps) : Type 0 where
    pub done : Done s
    pub quiet : (v : List Word) → V v → goes_on (done.more ++ v) ≡ false

  abbrev pub Never : Steps → Type 0
  Never s = (y : List Word) (r : Reading) (p : ℕ) → Follows entries end s y r → r ≡ refusal 3 p → ⊥

  -- wherever the steps have passed a word, they can be completed
  pub data Fair : Steps → Type 0 where
    fair_give : {t : Term} → Fair (give t)
    fair_refuse : {n p : ℕ} → (n ≡ 3 → ⊥) → Fair (refuse n p)
    fair_misfit : Fair misfit
    fair_ending : {s : Steps} → ((v : List Word) → V v → v ≡ []) → Fair s → Fair (ending s)
    fair_next : {m : Mark} {s z : Steps} → Fair s → Done s → Fair z → Joins m ⊎ Eats z → Fair (next m s z)
    fair_name : {f : Name → Steps} {z : Steps} → ((x : Name) → Fair (f x)) → ((x : Name) → Done (f x) ⊎ Never (f x)) → Fair z → Eats z → Fair (a_name f z)
    fair_number : {f : ℕ → Steps} → ((n : ℕ) → Fair (f n)) → ((n : ℕ) → Done (f n)) → Fair (a_number f)
    fair_part : {g : Sign} {sc : List Name} {f : Term → Steps} → ((t : Term) → Fair (f t)) → ((t : Term) → Ends (f t)) → Fair (part g sc f)

  pub record Fine (s : Steps) : Type 0 where
    pub fair : Fair s
    pub done : Done s

  pub record Good (s : Steps) : Type 0 where
    pub fair : Fair s
    pub ends : Ends s

  pub good_fine : {s : Steps} → Good s → Fine s
  good_fine g = grind arith

  abbrev next_done : (m : Mark) (s z : Steps) → Done s → Done (next m s z)
  next_done m s z d = record { more = marked m ∷ d.more; term = d.term; writable = (tt, d.writable); reads = λ v h. passed (eq-eqb (code m) (code m) refl) (d.reads v h) }

  pub next_fine : (m : Mark) {s z : Steps} → Fine s → Fair z → Joins m ⊎ Eats z → Fine (next m s z)
  next_fine m {s} {z} a b e = record { fair = fair_next a.fair a.done b e; done = next_done m s z a.done }

  pub next_good : (m : Mark) {s z : Steps} → goes_on (marked m ∷ []) ≡ false → Fine s → Fair z → Joins m ⊎ Eats z → Good (next m s z)
  next_good m {s} {z} q a b e = record { fair = fair_next a.fair a.done b e; ends = record { done = next_done m s z a.done; quiet = λ v h. q } }

  pub eat_fine : (m : Mark) {s : Steps} → Fine s → Fine (eat m s)
  eat_fine m a = next_fine m a fair_misfit (inr tt)

  pub eat_good : (m : Mark) {s : Steps} → goes_on (marked m ∷ []) ≡ false → Fine s → Good (eat m s)
  eat_good m q a = next_good m q a fair_misfit (inr tt)

  name_fine : {f : Name → Steps} {z : Steps} → ((x : Name) → Fine (f x)) → Fair z → Eats z → Fine (a_name f z)
  name_fine a b e =
      record {
        fair = fair_name (λ x. (a x).fair) (λ x. inl (a x).done) b e;
        done = record { more = put (name (codes "x")) 0 ∷ (a (codes "x")).done.more; writable = (x_good, (a (codes "x")).done.writable); term = (a (codes "x")).done.term; reads = λ v h. named refl ((a (codes "x")).done.reads v h) };
      }

  pub binder_fine : {f : Name → Steps} → ((x : Name) → Fine (f x)) → Fine (binder f)
  binder_fine a = name_fine a fair_misfit tt

  pub part_fine : {g : Sign} {sc : List Name} {f : Term → Steps} → Passing g → ((t : Term) → Good (f t)) → Fine (part g sc f)
  part_fine {g} {sc} p a =
      let d = (a (sort 0 0)).ends in
      record {
        fair = fair_part (λ t. (a t).fair) (λ t. (a t).ends);
        done = record { more = marked TypeWord ∷ d.done.more; writable = (tt, d.done.writable); term = d.done.term; reads = λ v h. parted (type_reads entries end g sc (d.done.more ++ v) p (d.quiet v h)) (d.done.reads v h) };
      }

  module _ (vt : (v : List Word) → V v → goes_on v ≡ false) where
    pub give_good : {t : Term} → Good (give t)
    give_good {t} = record { fair = fair_give; ends = record { done = record { more = []; writable = tt; term = t; reads = λ v h. given }; quiet = vt } }

    pub give_fine : {t : Term} → Fine (give t)
    give_fine = good_fine give_good

    -- a joining mark, or nothing
    join_good : {m : Mark} {s : Steps} {t : Term} → Joins m → Fine s → Good (next m s (give t))
    join_good {t = t} j a =
        record {
          fair = fair_next a.fair a.done fair_give (inl j);
          ends = record { done = record { more = []; writable = tt; term = t; reads = λ v h. turned (joins_not j v (vt v h)) given }; quiet = vt };
        }

    arguments_good : {sc : List Name} {E : Term} → Good (part (arguments E) sc give)
    arguments_good {sc} {E} =
        record {
          fair = fair_part (λ t. fair_give) (λ t. give_good.ends);
          ends = record { done = record { more = []; writable = tt; term = E; reads = λ v h. parted (no_arguments entries end sc (or_parts (begins v) _ (vt v h)).0) given }; quiet = vt };
        }

    headed_fine : (sc : List Name) (f : Term → Term) → Fine (headed sc f)
    headed_fine sc f = part_fine tt (λ E. arguments_good)

    typed_fine : (sc : List Name) {f : Name → Term → Steps} → ((x : Name) (A : Term) → Fine (f x A)) → Fine (typed sc f)
    typed_fine sc a = eat_fine Opens (binder_fine (λ x. eat_fine Colon (part_fine tt (λ A. eat_good Closes refl (a x A)))))

    quantified_fine : (q : Binary) (sc : List Name) (p : ℕ) → Fine (quantified q sc p)
    quantified_fine q sc p = typed_fine sc (λ x A. eat_fine Comma (part_fine tt (λ B. give_good)))

    functions_fine : (sc : List Name) (p : ℕ) → Fine (functions sc p)
    functions_fine sc p =
        name_fine (λ x. eat_fine Maps (part_fine tt (λ b. give_good)))
        (typed_fine sc (λ x T. eat_fine Maps (part_fine tt (λ b. give_good)))).fair tt

    lets_fine : (sc : List Name) (p : ℕ) → Fine (lets sc p)
    lets_fine sc p =
        next_fine OpensBrace
        (binder_fine (λ x. eat_fine Comma (binder_fine (λ y. eat_fine ClosesBrace (eat_fine Becomes (part_fine tt (λ E. eat_good InWord refl (part_fine tt (λ b. give_good)))))))))
        (binder_fine (λ x. next_fine Colon
        (part_fine tt (λ T. eat_good Becomes refl (part_fine tt (λ E. eat_good InWord refl (part_fine tt (λ b. give_good))))))
        (eat_fine Becomes (part_fine tt (λ E. eat_good InWord refl (part_fine tt (λ b. give_good))))).fair (inr tt))).fair (inr tt)

    arm_fine : (sc : List Name) {f : Term → Steps} → ((t : Term) → Good (f t)) → Fine (arm sc f)
    arm_fine sc a = binder_fine (λ x. eat_fine Maps (part_fine tt a))

    matches_fine : (sc : List Name) (p : ℕ) → Fine (matches sc p)
    matches_fine sc p =
        part_fine tt (λ E. eat_good WithWord refl (eat_fine Bar (next_fine InlWord
        (arm_fine sc (λ F. eat_good Bar refl (eat_fine InrWord (arm_fine sc (λ G. eat_good EndWord refl give_fine)))))
        (eat_fine InrWord (arm_fine sc (λ G. eat_good Bar refl (eat_fine InlWord (arm_fine sc (λ F. eat_good EndWord refl give_fine)))))).fair (inr tt))))

    bracketed_fine : (sc : List Name) (p : ℕ) → Fine (bracketed sc p)
    bracketed_fine sc p =
        part_fine tt (λ E. next_good Colon refl (part_fine tt (λ T. eat_good Closes refl give_fine))
        (next_fine Comma (part_fine tt (λ F. eat_good Closes refl give_fine)) (eat_fine Closes give_fine).fair (inr tt)).fair (inr tt))

    meant_fair : (k j : Option ℕ) (p : ℕ) → Fair (meant k j p)
    meant_fair None None p = fair_refuse (λ e. omega arith)
    meant_fair None (Some j) p = fair_give
    meant_fair (Some k) j p = fair_give

    give_never : (t : Term) → Never (give t)
    give_never t y r p given e = cc

    refuse_never : (p : ℕ) → Never (refuse 4 p)
    refuse_never q y r p refused e = cc

    meant_never : (k j : Option ℕ) (p : ℕ) → Never (meant k j p)
    meant_never None None p = refuse_never p
    meant_never None (Some j) p = give_never _
    meant_never (Some k) j p = give_never _

    arguments_fair : (b : Bool) (E : Term) (sc : List Name) → Fair (cond b (part atom sc (λ F. part (arguments (binary (place E) App E F)) sc give)) (give E))
    arguments_fair true E sc = (part_fine tt (λ F. arguments_good)).fair
    arguments_fair false E sc = fair_give

    pub production_fair : (g : Sign) (sc : List Name) (ws : List Word) → Fair (production entries end g sc ws)
    production_fair expr sc ws =
        let p = here end ws in
        (next_fine FunWord (functions_fine sc p)
        (next_fine PiWord (quantified_fine _ sc p) (next_fine ForallWord (quantified_fine _ sc p)
        (next_fine SigmaWord (quantified_fine _ sc p) (next_fine ExistsWord (quantified_fine _ sc p)
        (next_fine LetWord (lets_fine sc p) (part_fine tt (λ A. join_good by_arrow (part_fine tt (λ B. give_good)))).fair
        (inr tt)).fair (inr tt)).fair (inr tt)).fair (inr tt)).fair (inr tt)).fair (inr tt)).fair
    production_fair sums sc ws = (part_fine tt (λ A. join_good by_plus (part_fine tt (λ B. give_good)))).fair
    production_fair products sc ws = (part_fine tt (λ A. join_good by_times (part_fine tt (λ B. give_good)))).fair
    production_fair application sc ws =
        (next_fine FstWord (headed_fine sc _) (next_fine SndWord (headed_fine sc _) (next_fine InlWord (headed_fine sc _)
        (next_fine InrWord (headed_fine sc _) (headed_fine sc _).fair (inr tt)).fair (inr tt)).fair (inr tt)).fair (inr tt)).fair
    production_fair (arguments E) sc ws = arguments_fair (begins ws) E sc
    production_fair atom sc ws =
        let p = here end ws in
        fair_name (λ x. meant_fair (find x sc) (find_entry x entries) p) (λ x. inr (meant_never (find x sc) (find_entry x entries) p))
        (next_fine TypeWord give_fine (next_fine PropWord give_fine (next_fine KindWord give_fine
        (next_fine SortWord number_fine (next_fine Opens (bracketed_fine sc p)
        (next_fine OpensBrace (part_fine tt (λ E. eat_good Comma refl (part_fine tt (λ F. eat_good ClosesBrace refl give_fine))))
        (next_fine MatchWord (matches_fine sc p) fair_misfit (inr tt)).fair
        (inr tt)).fair (inr tt)).fair (inr tt)).fair (inr tt)).fair (inr tt)).fair (inr tt)).fair tt
      where
        number_fine : Fine (a_number (λ n. give (sort (here end ws) n)))
        number_fine = record { fair = fair_number (λ n. fair_give) (λ n. give_fine.done); done = record { more = put (number 0) 0 ∷ []; writable = (omega arith, tt); term = sort (here end ws) 0; reads = λ v h. numbered refl given } }
