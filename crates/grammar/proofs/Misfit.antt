-- A statement that is refused with 3 can begin up to the place, and not with the word there.
use Rattle.std.proofs.Common.{◌≡◌, ℕ, ◌^◌, ◌<◌, Bool, true, false, cond, List, [], ◌∷◌, ◌++◌, length, get_or, Some, None, Option, sym, refl, ap, ◌∙◌, subst, subst₂, inr, arith}
use Rattle.std.specs.Char.{is_ascii_alphabetic}
use Rattle.script.specs.declared.token.Mark.TheVariants.{Colon, Becomes}
use Rattle.script.specs.declared.token.FirstWord.TheVariants.{CheckWord}
use Rattle.script.specs.declared.statement.StatementKind.{StatementKind}
use Rattle.script.specs.declared.statement.StatementKind.TheVariants.{Def, Axiom, Check, Eval}
use Rattle.term.specs.declared.node.Binary.TheVariants.{Ascribe}
use Rattle.term.specs.Term.{Term, binary, place}
use Rattle.grammar.specs.Words.{name, first, Word}
use Rattle.grammar.specs.Grammar.{Name, expr, Steps, give, refuse, ending, next, part, eat, find_entry, here, goes_on, next_name, past, Reading, tree, refusal, Follows}
use Rattle.grammar.specs.Grammar.Follows.{given, refused, unfit, ended, named, nameless}
use Rattle.grammar.specs.Statements.{kind_of, name_place, unless_known, new_name, judging, statement, States}
use Rattle.grammar.specs.Statements.States.{of_kind, of_none}
use Rattle.grammar.specs.Misfit.{CanBegin, Misfit, Misfits}
use Rattle.grammar.proofs.Completing.{Done, Fine, Good, next_fine, eat_fine, eat_good, part_fine}
use Rattle.grammar.proofs.Completing.Fair.{fair_give, fair_ending}
use Rattle.grammar.proofs.Framing.{Stuck, Can, both_writable, complete, stuck}
use Rattle.grammar.proofs.Fresh.{fresh}
use Rattle.grammar.proofs.Reader.{unique}
use Rattle.grammar.proofs.Words.{put}

-- nothing comes after a statement
abbrev Nothing : List Word → Type 0
Nothing v = v ≡ []

quiet_nothing : (v : List Word) → Nothing v → goes_on v ≡ false
quiet_nothing v h = ap goes_on h

module _ (entries : List Name) (end : ℕ) (few : length entries < 2 ^ 64) where
  ending_good : {t : Term} → Good entries end Nothing (ending (give t))
  ending_good {t} =
      record {
        fair = fair_ending (λ v h. h) fair_give;
        ends = record { done = record { more = []; term = t; writable = tt; reads = λ v h. subst (λ y. Follows entries end (ending (give t)) y (tree t y)) (sym h) (ended given) }; quiet = quiet_nothing };
      }

  -- what comes after a new name
  abbrev value : Steps
  value =
      next Colon (part expr [] (λ T. eat Becomes (part expr [] (λ E. ending (give (binary (place T) Ascribe E T))))))
      (eat Becomes (part expr [] (λ E. ending (give E))))

  abbrev type : Steps
  type = eat Colon (part expr [] (λ T. ending (give T)))

  value_fine : Fine entries end Nothing value
  value_fine =
      next_fine entries end Nothing Colon (part_fine entries end Nothing tt (λ T. eat_good entries end Nothing Becomes refl (part_fine entries end Nothing tt (λ E. ending_good))))
      (eat_fine entries end Nothing Becomes (part_fine entries end Nothing tt (λ E. ending_good))).fair (inr tt)

  type_fine : Fine entries end Nothing type
  type_fine = eat_fine entries end Nothing Colon (part_fine entries end Nothing tt (λ T. ending_good))

  judging_fine : Fine entries end Nothing judging
  judging_fine = part_fine entries end Nothing tt (λ E. ending_good)

  -- the steps after a name, by whether it begins with a letter and is entered
  abbrev after_name : ℕ → Steps → Bool → Option ℕ → Steps
  after_name p s b o = cond b (unless_known o p s) (refuse 3 p)

  abbrev new_done : (p : ℕ) (s : Steps) → Done entries end Nothing s → Done entries end Nothing (new_name entries p s)
  new_done p s d =
      let x = fresh entries few in
      record {
        more = put (name x.new) 0 ∷ d.more;
        term = d.term;
        writable = (x.good, d.writable);
        reads = λ v h. named refl (subst₂ (λ b o. Follows entries end (after_name p s b o) (d.more ++ v) (tree d.term v)) (sym x.good.letter_first) (sym x.unknown) (d.reads v h));
      }

  module _ (p : ℕ) (s : Steps) (fine : Fine entries end Nothing s) where
    named_stuck : (w : Word) (y : List Word) (n : Name) (b : Bool) (o : Option ℕ) {r : Reading} → p ≡ w.at → next_name (w ∷ y) ≡ Some n → is_ascii_alphabetic (get_or n 0 0) ≡ b → find_entry n entries ≡ o → Follows entries end (after_name p s b o) y r → (q : ℕ) → r ≡ refusal 3 q → Stuck entries end Nothing (new_name entries p s) (w ∷ y) q
    named_stuck w y n true None i e l f d q j =
        let r = stuck entries end Nothing s y d q j fine.fair in
        let c = complete entries end Nothing s r.before r.can fine.done in
        record {
          before = w ∷ r.before;
          after = r.after;
          whole = ap (λ y. w ∷ y) r.whole;
          place = r.place;
          stays = λ x rest k c. named e (subst₂ (λ b o. Follows entries end (after_name p s b o) (r.before ++ (x ∷ c)) (refusal 3 x.at)) (sym l) (sym f) (r.stays x rest k c));
          can = record { more = c.more; term = c.term; writable = c.writable; reads = λ v h. named e (subst₂ (λ b o. Follows entries end (after_name p s b o) (r.before ++ (c.more ++ v)) (tree c.term v)) (sym l) (sym f) (c.reads v h)) };
        }
    named_stuck w y n true (Some m) i e l f refused q j = cc
    named_stuck w y n false o i e l f refused q j =
        record {
          before = [];
          after = w ∷ y;
          whole = refl;
          place = cc;
          stays = λ x rest k c.
              let a : w ≡ x = cc in
              subst (λ x. Follows entries end (new_name entries p s) (x ∷ c) (refusal 3 x.at)) a
              (named e (subst₂ (λ b m. Follows entries end (after_name p s b (find_entry n entries)) c (refusal 3 m)) (sym l) i refused));
          can = tt;
        }

    new_stuck : (y : List Word) {r : Reading} → p ≡ here end y → Follows entries end (new_name entries p s) y r → (q : ℕ) → r ≡ refusal 3 q → Stuck entries end Nothing (new_name entries p s) y q
    new_stuck [] i (named e d) q j = cc
    new_stuck (w ∷ y) i (named {x = n} e d) q j = grind (arith, named_stuck)
    new_stuck y i (nameless e unfit) q j =
        record { before = []; after = y; whole = refl; place = cc; stays = λ w rest k c. nameless (subst (λ y. next_name y ≡ None) k e) unfit; can = tt }

  statement_stuck : (k : StatementKind) (y : List Word) {r : Reading} → Follows entries end (statement k entries (here end y)) y r → (q : ℕ) → r ≡ refusal 3 q → Stuck entries end Nothing (statement k entries (here end y)) y q
  statement_stuck k y d q j = grind (arith, new_stuck, value_fine, type_fine, stuck, judging_fine)

  -- what completes a statement of a kind, wherever its name stands
  abbrev statement_done : (k : StatementKind) (p : ℕ) → Done entries end Nothing (statement k entries p)
  statement_done Def p = new_done p value value_fine.done
  statement_done Axiom p = new_done p type type_fine.done
  statement_done Check p = judging_fine.done
  statement_done Eval p = judging_fine.done

  more_same : (k : StatementKind) (p q : ℕ) → (statement_done k p).more ≡ (statement_done k q).more
  more_same Def p q = refl
  more_same Axiom p q = refl
  more_same Check p q = refl
  more_same Eval p q = refl

  kind_begins : (w : Word) (k : StatementKind) → ((ws : List Word) → kind_of (w ∷ ws) ≡ Some k) → CanBegin entries end (w ∷ [])
  kind_begins w k e =
      let more = (statement_done k 0).more ++ [] in
      let d = statement_done k (here end more) in
      record {
        more = more;
        term = d.term;
        writable = both_writable (statement_done k 0).more [] (statement_done k 0).writable tt;
        reads = of_kind (e more) (subst (λ ws. Follows entries end (statement k entries (here end more)) (ws ++ []) (tree d.term [])) (more_same k (here end more) 0) (d.reads [] refl));
      }

  can_of : (w : Word) (k : StatementKind) (y b a : List Word) → ((ws : List Word) → kind_of (w ∷ ws) ≡ Some k) → y ≡ b ++ a → Can entries end Nothing (statement k entries (here end y)) b → CanBegin entries end (w ∷ b)
  can_of w k y [] a e i c = kind_begins w k e
  can_of w k y (x ∷ b) a e i c =
      record {
        more = c.more ++ [];
        term = c.term;
        writable = both_writable c.more [] c.writable tt;
        reads = of_kind (e (x ∷ (b ++ (c.more ++ [])))) (subst (λ p. Follows entries end (statement k entries p) (x ∷ (b ++ (c.more ++ []))) (tree c.term [])) (ap (here end) i) (c.reads [] refl));
      }

  here_at : (b : List Word) (w : Word) (a c : List Word) → here end (b ++ (w ∷ a)) ≡ here end (b ++ (w ∷ c))
  here_at [] w a c = refl
  here_at (x ∷ b) w a c = refl

  read_not : {r : Reading} (ws : List Word) {q : Reading} {t : Term} {us : List Word} {p : ℕ} (k : StatementKind) → kind_of ws ≡ Some k → Follows entries end (statement k entries (name_place end ws)) (past ws) r → r ≡ refusal 3 p → States entries end ws q → q ≡ tree t us → ⊥
  read_not {r} ws {q} k e d i (of_kind {k = m} f h) j = grind (arith, unique)
  read_not ws k e d i (of_none f) j = cc

  none_not : {q : Reading} {t : Term} {us : List Word} (ws : List Word) → kind_of ws ≡ None → States entries end ws q → q ≡ tree t us → ⊥
  none_not ws e h j = grind arith

  by_reading : (ws : List Word) {r : Reading} (p : ℕ) → States entries end ws r → r ≡ refusal 3 p → Misfit entries end ws p
  by_reading ws p (of_none e) j =
      let d = kind_begins (put (first CheckWord) 0) Check (λ ws. refl) in
      record {
        before = [];
        after = ws;
        whole = refl;
        place = cc;
        can = record { more = put (first CheckWord) 0 ∷ d.more; term = d.term; writable = (tt, d.writable); reads = d.reads };
        cannot = λ w rest k more us t c. none_not (w ∷ more) (subst (λ y. kind_of y ≡ None) k e) c refl;
      }
  by_reading [] p (of_kind e d) j = cc
  by_reading (w ∷ y) p (of_kind {k = k} e d) j =
      let r = statement_stuck k y d p j in
      record {
        before = w ∷ r.before;
        after = r.after;
        whole = ap (λ y. w ∷ y) r.whole;
        place = r.place;
        can = can_of w k y r.before r.after (λ ws. e) r.whole r.can;
        cannot = λ x rest i more us t c.
            read_not (w ∷ (r.before ++ (x ∷ more))) k e
            (subst (λ p. Follows entries end (statement k entries p) (r.before ++ (x ∷ more)) (refusal 3 x.at)) (ap (here end) (r.whole ∙ ap (λ a. r.before ++ a) i) ∙ here_at r.before x rest more) (r.stays x rest i more))
            refl c refl;
      }

pub misfits : Misfits
misfits entries end ws p few d = by_reading entries end few ws p d refl
