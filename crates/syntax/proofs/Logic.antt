-- The steps of the parser put together: one lemma for each way that a step can go.
use Rattle.std.proofs.Common.{◌≡◌, ℕ, ◌+◌, ◌*◌, ◌<◌, ◌≤◌, Bool, true, false, cond, List, [], ◌∷◌, ◌++◌, length, take, unwrap_or, IsErrAnd, Some, None, Ok, Err, Option, MatchOption, vec_items, vec_len, Result, sym, refl, ap, ◌∙◌, subst, ap₂, append_assoc, arith}
use Rattle.std.proofs.lemmas.Result.{err_from_is_err_and}
use Rattle.std.proofs.lemmas.Bool.{both_ways}
use Rattle.std.proofs.lemmas.Option.{none-some}
use Rattle.script.specs.declared.statement.Span.{Span}
use Rattle.script.specs.Lexemes.{Lexeme}
use Rattle.script.specs.declared.token.Mark.{Mark}
use Rattle.script.specs.declared.token.Mark.TheVariants.{InWord}
use Rattle.script.specs.View.{script}
use Rattle.term.specs.declared.arena.Arena.{Arena}
use Rattle.term.specs.declared.node.Node.{Node}
use Rattle.term.specs.declared.node.Unary.{Unary}
use Rattle.term.specs.declared.node.Binary.{Binary}
use Rattle.term.specs.declared.node.Binary.TheVariants.{Let}
use Rattle.term.specs.State.{term, cells_in, Kept}
use Rattle.term.specs.Cells.{form}
use Rattle.term.specs.Term.{Term, sort, unary, binary, choice}
use Rattle.grammar.specs.Words.{Word, as_token, words}
use Rattle.grammar.specs.Grammar.{Name, is, is_token, past, here, next_name, next_number, Sign, expr, Steps, give, refuse, misfit, next, a_name, a_number, part, quantified, headed, eat, binder, typed, meant, find, find_entry, production, Reading, tree, refusal, Follows, given, refused, unfit, passed, turned, named, nameless, numbered, numberless, parted, broken}
use Rattle.syntax.specs.declared.ahead.Ahead.{Ahead}
use Rattle.syntax.specs.declared.scope.Scope.{Scope}
use Rattle.syntax.specs.declared.fault.SyntaxFault.{SyntaxFault}
use Rattle.syntax.specs.declared.fault.SyntaxFault.TheVariants.{Misfit}
use Rattle.syntax.specs.Faults.{fault_number, fault_place}
use Rattle.syntax.specs.Look.{text, left, coming, span_bytes, Takes}
use Rattle.syntax.specs.Rooms.{Room}
use Rattle.syntax.specs.Scopes.{opened, entry_names}
use Rattle.syntax.specs.Choices.{chosen, next_chosen, choosing}
use Rattle.syntax.proofs.Scopes.{opened_push, closed_again}
use Rattle.syntax.specs.Parses.{Now, at, words_left, binders, entries, end, Moves, Leads, Gave, Stopped, Parsed, Eats, Names, Expects, Calls, Counts, under, HasRoomForCell, HasRoomForNames, Adds, OpensBinder, ClosesBinders, one_name, two_names, two_arms, TypedBinder, ReadsTerm, TwoNames, TwoArms, Means, AsUnder}

pub kept_id : (a : Arena) → Kept a a
kept_id a = record { long = omega arith; limit = refl; trees = λ k h. refl; chains = λ o h. refl }

kept_then : {a b c : Arena} → Kept a b → Kept b c → Kept a c
kept_then x y =
    record {
      long = omega (arith, x.long, y.long);
      limit = y.limit ∙ x.limit;
      trees = λ k h. y.trees k (omega (arith, x.long)) ∙ x.trees k h;
      chains = λ o h. y.chains o (omega (arith, x.long)) ∙ x.chains o h;
    }

pub moves_then : {c d : ℕ} {x y z : Now} → Moves c x y → Moves d y z → Moves (c + d) x z
moves_then m n =
    record {
      text = n.text ∙ m.text;
      end = n.end ∙ m.end;
      entered = n.entered ∙ m.entered;
      names = n.names ∙ m.names;
      count = n.count ∙ m.count;
      kept = kept_then m.kept n.kept;
      budget = n.budget ∙ m.budget;
      words = omega (arith, m.words, n.words);
      cells = omega (arith, m.cells, n.cells);
    }

pub fewer : {c d : ℕ} {x y : Now} → d ≤ c → Moves c x y → Moves d x y
fewer h m =
    record {
      text = m.text;
      end = m.end;
      entered = m.entered;
      names = m.names;
      count = m.count;
      kept = m.kept;
      budget = m.budget;
      words = omega (arith, m.words);
      cells = omega (arith, m.cells);
    }

pub stays : (x : Now) → Moves 0 x x
stays x = record { text = refl; end = refl; entered = refl; names = refl; count = refl; kept = kept_id x.arena; budget = refl; words = omega arith; cells = omega arith }

-- a reader that looks moves nothing else
looks : {c : ℕ} {r r' : Ahead} (es : List Span) (s : Scope) (a : Arena) → text r' ≡ text r → r'.end ≡ r.end → 2 * length (left r') + c ≤ 2 * length (left r) → Moves c (at r es s a) (at r' es s a)
looks es s a t n w = record { text = t; end = n; entered = refl; names = refl; count = refl; kept = kept_id a; budget = refl; words = w; cells = omega (arith, w) }

entries_same : {c : ℕ} {x y : Now} → Moves c x y → entries y ≡ entries x
entries_same m = ap₂ entry_names m.text m.entered

under_same : (pre : List ℕ → List Name) {c : ℕ} {x y : Now} → Moves c x y → under pre y ≡ under pre x
under_same pre m = ap₂ (λ s xs. pre s ++ opened s xs) m.text m.names

-- what follows after a move is the same as before
follows_same : {c : ℕ} {x y : Now} (q : Steps) (ws : List Word) (z : Reading) → Moves c x y → Follows (entries y) (end y) q ws z → Follows (entries x) (end x) q ws z
follows_same {c} {x} {y} q ws z m f = subst (λ n. Follows (entries x) n q ws z) m.end (subst (λ es. Follows es (end y) q ws z) (entries_same m) f)

follows_after : {c : ℕ} {x y : Now} (q : Steps) (ws : List Word) (z : Reading) → Moves c x y → Follows (entries x) (end x) q ws z → Follows (entries y) (end y) q ws z
follows_after {c} {x} {y} q ws z m f = subst (λ n. Follows (entries y) n q ws z) (sym m.end) (subst (λ es. Follows es (end x) q ws z) (sym (entries_same m)) f)

production_same : (pre : List ℕ → List Name) {c : ℕ} {x y : Now} (g : Sign) (ws : List Word) → Moves c x y → production (entries y) (end y) g (under pre y) ws ≡ production (entries x) (end x) g (under pre x) ws
production_same pre {c} {x} {y} g ws m =
    ap₂ (λ es n. production es n g (under pre y) ws) (entries_same m) m.end
    ∙ ap (λ sc. production (entries x) (end x) g sc ws) (under_same pre m)

part_same : (pre : List ℕ → List Name) {c : ℕ} {x y : Now} (g : Sign) (ws : List Word) (z : Reading) → Moves c x y → Follows (entries y) (end y) (production (entries y) (end y) g (under pre y) ws) ws z → Follows (entries x) (end x) (production (entries x) (end x) g (under pre x) ws) ws z
part_same pre {c} {x} {y} g ws z m f =
    subst (λ q. Follows (entries x) (end x) q ws z) (production_same pre g ws m) (follows_same _ ws z m f)

pub start : (x : Now) (p : Steps) → Leads 0 x x p p
start x p = record { moves = stays x; leads = λ z f. f }

pub then : {c d : ℕ} {x y z : Now} {p q u : Steps} → Leads c x y p q → Leads d y z q u → Leads (c + d) x z p u
then {x = x} {y} {z} {p} {q} {u} l m =
    record {
      moves = moves_then l.moves m.moves;
      leads = λ w f. l.leads w (follows_same q _ w l.moves (m.leads w (follows_after u _ w l.moves f)));
    }

pub halt : {c : ℕ} {x y z : Now} {p q : Steps} {e : SyntaxFault} → Leads c x y p q → Stopped y z q e → Stopped x z p e
halt {x = x} {y} {z} {p} {q} {e} l m =
    record {
      moves = fewer (omega arith) (moves_then l.moves m.moves);
      follows = l.leads _ (follows_same q _ _ l.moves m.follows);
    }

-- a part was read, under the names of pre
pub then_part : (pre : List ℕ → List Name) {c d : ℕ} {x y z : Now} {p : Steps} {g : Sign} {f : Term → Steps} {i : ℕ} → Leads c x y p (part g (under pre x) f) → Gave d y z (production (entries y) (end y) g (under pre y) (words_left y)) i → Leads (c + d) x z p (f (term z.arena i))
then_part pre {x = x} {y} {z} {p} {g} {f} {i} l h =
    record {
      moves = moves_then l.moves h.moves;
      leads = λ w t. l.leads w (parted (part_same pre g _ _ l.moves h.follows) t);
    }

pub halt_part : (pre : List ℕ → List Name) {c : ℕ} {x y z : Now} {p : Steps} {g : Sign} {f : Term → Steps} {e : SyntaxFault} → Leads c x y p (part g (under pre x) f) → Stopped y z (production (entries y) (end y) g (under pre y) (words_left y)) e → Stopped x z p e
halt_part pre {x = x} {y} {z} {p} {g} {f} {e} l h =
    record {
      moves = fewer (omega arith) (moves_then l.moves h.moves);
      follows = l.leads _ (broken (part_same pre g _ _ l.moves h.follows));
    }

-- what was read is given
pub gave : {c d : ℕ} {x y : Now} {p : Steps} {t : Term} {i : ℕ} → Leads c x y p (give t) → t ≡ term y.arena i → i < cells_in y.arena → d ≤ c → Gave d x y p i
gave {x = x} {y} {p} {t} {i} l e w h =
    record { moves = fewer h l.moves; within = w; follows = l.leads _ (subst (λ u. Follows (entries x) (end x) (give u) (words_left y) (tree (term y.arena i) (words_left y))) (sym e) given) }

-- a cell more on the way
pub added : {c d : ℕ} {x y z : Now} {p q : Steps} {node : Node} {i : ℕ} → d + 1 ≤ c → Leads c x y p q → Adds y z node i → Leads d x z p q
added {c} {d} {x} {y} {z} {p} {q} h l a =
    subst (λ v. Leads d x v p q) (sym a.same) (record {
      moves =
          record {
            text = l.moves.text;
            end = l.moves.end;
            entered = l.moves.entered;
            names = l.moves.names;
            count = l.moves.count;
            kept = kept_then l.moves.kept a.added.kept;
            budget = a.added.left ∙ l.moves.budget;
            words = omega (arith, l.moves.words);
            cells = omega (arith, l.moves.cells, a.added.len);
          };
      leads = l.leads;
    })

-- for the tree that is given
pub built : {c d : ℕ} {x y z : Now} {p : Steps} {t : Term} {node : Node} {i : ℕ} → Leads c x y p (give t) → Adds y z node i → t ≡ form node (term y.arena) → d + 1 ≤ c → Gave d x z p i
built {c} {d} {x} {y} {z} {p} {t} {node} {i} l a e h =
    gave (added {d = d} h l a) (e ∙ sym a.added.made) (omega (arith, a.added.at, a.added.len)) (omega arith)

-- the rest of the steps is another function's
pub tail : {c d e : ℕ} {x y z : Now} {p q : Steps} (r : Result ℕ SyntaxFault) → Leads c x y p q → Parsed d y z q r → e ≤ c + d → Parsed e x z p r
tail {x = x} {y} {z} {p} {q} (Ok i) l h w =
    record {
      found =
          record {
            moves = fewer w (moves_then l.moves h.found.moves);
            within = h.found.within;
            follows = l.leads _ (follows_same q _ _ l.moves h.found.follows);
          };
    }
tail (Err e) l h w = record { found = halt l h.found }

-- and gives what a part gives
pub tail_part : (pre : List ℕ → List Name) {c d e : ℕ} {x y z : Now} {p : Steps} {g : Sign} (r : Result ℕ SyntaxFault) → Leads c x y p (part g (under pre x) give) → Parsed d y z (production (entries y) (end y) g (under pre y) (words_left y)) r → e ≤ c + d → Parsed e x z p r
tail_part pre (Ok i) l h w = record { found = gave (then_part pre l h.found) refl h.found.within w }
tail_part pre (Err e) l h w = record { found = halt_part pre l h.found }

-- what does not fit is refused where it stands
pub misfits : (x : Now) (e : SyntaxFault) → e ≡ Misfit (here (end x) (words_left x)) → Stopped x x misfit e
misfits x e h =
    record {
      moves = stays x;
      follows = subst (λ (v : SyntaxFault). Follows (entries x) (end x) misfit (words_left x) (refusal (fault_number v) (fault_place v))) (sym h) unfit;
    }

-- the words past the next are one fewer
past_fewer : (m : Mark) (ws us : List Word) → is m ws ≡ true → us ≡ past ws → length us + 1 ≤ length ws
past_fewer m [] us t e = absurd (both_ways false refl t)
past_fewer m (w ∷ ws) us t e = omega (arith, ap length e)

named_fewer : (ws us : List Word) (x : Name) → next_name ws ≡ Some x → us ≡ past ws → length us + 1 ≤ length ws
named_fewer [] us x t e = let z : ◌≡◌ {A = ℕ} 0 1 = cc in absurd (omega arith)
named_fewer (w ∷ ws) us x t e = omega (arith, ap length e)

numbered_fewer : (ws us : List Word) (n : ℕ) → next_number ws ≡ Some n → us ≡ past ws → length us + 1 ≤ length ws
numbered_fewer [] us x t e = let z : ◌≡◌ {A = ℕ} 0 1 = cc in absurd (omega arith)
numbered_fewer (w ∷ ws) us x t e = omega (arith, ap length e)

module _ {c : ℕ} {x : Now} {r r' : Ahead} {es : List Span} {s : Scope} {a : Arena} {p : Steps} where
  -- the next word is the mark
  pub ate : {m : Mark} {q u : Steps} → Leads c x (at r es s a) p (next m q u) → Eats m r r' true → Leads (c + 2) x (at r' es s a) p q
  ate {m} {q} l h =
      then l (record {
        moves = looks es s a h.same h.end (omega (arith, past_fewer m (left r) (left r') (sym h.test) h.rest));
        leads = λ z f. passed (sym h.test) (subst (λ ws. Follows (entries (at r es s a)) (end (at r es s a)) q ws z) h.rest f);
      })

  -- it is another
  pub missed : {m : Mark} {q u : Steps} → Leads c x (at r es s a) p (next m q u) → Eats m r r' false → Leads (c + 0) x (at r' es s a) p u
  missed {m} {q} {u} l h =
      then l (record {
        moves = looks es s a h.same h.end (omega (arith, ap length h.rest));
        leads = λ z f. turned (sym h.test) (subst (λ ws. Follows (entries (at r es s a)) (end (at r es s a)) u ws z) h.rest f);
      })

  pub expected : {m : Mark} {q : Steps} → Leads c x (at r es s a) p (eat m q) → Expects m r r' (Ok tt) → Leads (c + 2) x (at r' es s a) p q
  expected l h = ate l h.fits

  pub unexpected : {m : Mark} {q : Steps} {e : SyntaxFault} → Leads c x (at r es s a) p (eat m q) → Expects m r r' (Err e) → Stopped x (at r' es s a) p e
  unexpected {m} {q} {e} l h = halt (missed l h.fits.0) (misfits (at r' es s a) e (h.fits.1 ∙ ap₂ (λ n ws. Misfit (here n ws)) (sym h.fits.0.end) (sym h.fits.0.rest)))

  -- the next word is a name
  pub called : {f : Name → Steps} {u : Steps} {n : Span} → Leads c x (at r es s a) p (a_name f u) → Names r r' (Some n) → Leads (c + 2) x (at r' es s a) p (f (span_bytes (text x.ahead) n))
  called {f} {u} {n} l h =
      then l (record {
        moves = looks es s a h.same h.end (omega (arith, named_fewer (left r) (left r') (span_bytes (text r) n) (sym h.found) h.rest));
        leads = λ z g. named (sym h.found) (subst (λ t. Follows (entries (at r es s a)) (end (at r es s a)) (f (span_bytes t n)) (past (left r)) z) (sym l.moves.text) (subst (λ ws. Follows (entries (at r es s a)) (end (at r es s a)) (f (span_bytes (text x.ahead) n)) ws z) h.rest g));
      })

  pub uncalled : {f : Name → Steps} {u : Steps} → Leads c x (at r es s a) p (a_name f u) → Names r r' None → Leads (c + 0) x (at r' es s a) p u
  uncalled {f} {u} l h =
      then l (record {
        moves = looks es s a h.same h.end (omega (arith, ap length h.rest));
        leads = λ z g. nameless (sym h.found) (subst (λ ws. Follows (entries (at r es s a)) (end (at r es s a)) u ws z) h.rest g);
      })

  pub bound : {f : Name → Steps} {n : Span} → Leads c x (at r es s a) p (binder f) → Calls r r' (Ok n) → Leads (c + 2) x (at r' es s a) p (f (span_bytes (text x.ahead) n))
  bound l h = called l h.fits

  pub unbound : {f : Name → Steps} {e : SyntaxFault} → Leads c x (at r es s a) p (binder f) → Calls r r' (Err e) → Stopped x (at r' es s a) p e
  unbound {f} {e} l h = halt (uncalled l h.fits.0) (misfits (at r' es s a) e (h.fits.1 ∙ ap₂ (λ n ws. Misfit (here n ws)) (sym h.fits.0.end) (sym h.fits.0.rest)))

  -- the next word is a number
  pub counted : {f : ℕ → Steps} {n : ℕ} → Leads c x (at r es s a) p (a_number f) → Counts r r' (Ok n) → Leads (c + 2) x (at r' es s a) p (f n)
  counted {f} {n} l h =
      then l (record {
        moves = looks es s a h.fits.same h.fits.end (omega (arith, numbered_fewer (left r) (left r') n (sym h.fits.found) h.fits.rest));
        leads = λ z g. numbered (sym h.fits.found) (subst (λ ws. Follows (entries (at r es s a)) (end (at r es s a)) (f n) ws z) h.fits.rest g);
      })

  pub uncounted : {f : ℕ → Steps} {e : SyntaxFault} → Leads c x (at r es s a) p (a_number f) → Counts r r' (Err e) → Stopped x (at r' es s a) p e
  uncounted {f} {e} l h =
      halt l (record {
        moves = looks es s a h.fits.0.same h.fits.0.end (omega (arith, ap length h.fits.0.rest));
        follows = subst (λ (v : SyntaxFault). Follows (entries (at r es s a)) (end (at r es s a)) (a_number f) (left r) (refusal (fault_number v) (fault_place v))) (sym h.fits.1) (numberless (sym h.fits.0.found));
      })

binders_same : {d : ℕ} {x y : Now} → Moves d x y → binders y ≡ binders x
binders_same m = ap₂ opened m.text m.names

module _ {c : ℕ} {x y z : Now} {p : Steps} where
  -- "(" n ":" A ")" was read
  pub typed_then : {f : Name → Term → Steps} {v : Span × ℕ} → Leads c x y p (typed (binders x) f) → TypedBinder y z (Ok v) → Leads (c + 1) x z p (f (span_bytes (text x.ahead) v.0) (term z.arena v.1))
  typed_then {f} {v} l h =
      then l (subst (λ sc. Leads 1 y z (typed sc f) (f (span_bytes (text x.ahead) v.0) (term z.arena v.1))) (binders_same l.moves)
      (subst (λ t. Leads 1 y z (typed (binders y) f) (f (span_bytes t v.0) (term z.arena v.1))) l.moves.text (h.found.1 f)))

  pub term_then : (q : List Name → (Term → Steps) → Steps) {f : Term → Steps} {i : ℕ} → Leads c x y p (q (binders x) f) → ReadsTerm q y z (Ok i) → Leads (c + 1) x z p (f (term z.arena i))
  term_then q {f} {i} l h = then l (subst (λ sc. Leads 1 y z (q sc f) (f (term z.arena i))) (binders_same l.moves) (h.found.1 f))

  pub term_halt : (q : List Name → (Term → Steps) → Steps) {f : Term → Steps} {e : SyntaxFault} → Leads c x y p (q (binders x) f) → ReadsTerm q y z (Err e) → Stopped x z p e
  term_halt q {f} {e} l h = halt l (subst (λ sc. Stopped y z (q sc f) e) (binders_same l.moves) (h.found f))

  pub names_then : {f : Name → Name → Steps} {v : Span × Span} → Leads c x y p (two_names f) → TwoNames y z (Ok v) → Leads (c + 1) x z p (f (span_bytes (text x.ahead) v.0) (span_bytes (text x.ahead) v.1))
  names_then {f} {v} l h = then l (subst (λ t. Leads 1 y z (two_names f) (f (span_bytes t v.0) (span_bytes t v.1))) l.moves.text (h.found f))

  pub arms_then : {m : Mark} {f : Term → Term → Steps} {v : ℕ × ℕ} → Leads c x y p (two_arms m (binders x) f) → TwoArms m y z (Ok v) → Leads (c + 1) x z p (f (term z.arena v.0) (term z.arena v.1))
  arms_then {m} {f} {v} l h = then l (subst (λ sc. Leads 1 y z (two_arms m sc f) (f (term z.arena v.0) (term z.arena v.1))) (binders_same l.moves) (h.found.2 f))

  pub arms_halt : {m : Mark} {f : Term → Term → Steps} {e : SyntaxFault} → Leads c x y p (two_arms m (binders x) f) → TwoArms m y z (Err e) → Stopped x z p e
  arms_halt {m} {f} {e} l h = halt l (subst (λ sc. Stopped y z (two_arms m sc f) e) (binders_same l.moves) (h.found f))

  -- the rest is the steps of another function, which has the place
  pub rest_is : (f : ℕ → List Name → Steps) {d e at at' : ℕ} (r : Result ℕ SyntaxFault) → at' ≡ at → Leads c x y p (f at (binders x)) → Parsed d y z (f at' (binders y)) r → e ≤ c + d → Parsed e x z p r
  rest_is f {d} {e} {at} {at'} r g l h w = tail r l (subst (λ n. Parsed d y z (f n (binders x)) r) g (subst (λ sc. Parsed d y z (f at' sc) r) (binders_same l.moves) h)) w

-- steps that are others
pub like : {c : ℕ} {x y : Now} {p q u : Steps} → q ≡ u → Leads c x y p q → Leads c x y p u
like {c} {x} {y} {p} e l = subst (λ t. Leads c x y p t) e l

-- what `?` hands on
pub passed_on : {c : ℕ} {x y : Now} {p : Steps} {e : SyntaxFault} (r : Result ℕ SyntaxFault) → IsErrAnd r (λ d. d ≡ e) → Stopped x y p e → Parsed c x y p r
passed_on {c} {x} {y} {p} {e} r h s =
    let q = err_from_is_err_and r h in
    subst (λ t. Parsed c x y p t) (sym q.1) (record { found = subst (λ d. Stopped x y p d) (sym q.2) s })

-- an older tree is the same
pub still : {c : ℕ} {x y : Now} (i : ℕ) → Moves c x y → i < cells_in x.arena → term y.arena i ≡ term x.arena i
still i m h = m.kept.trees i h

-- room stays, and a word that was passed leaves some for a cell
pub room_cell : {c : ℕ} {x y : Now} → Room x.ahead x.scope x.arena → Moves c x y → 0 < c → HasRoomForCell y
room_cell h m p = omega (arith, h.cells, m.cells, m.budget, m.kept.limit)

-- fewer words are claimed
pub less : {c d : ℕ} {x y : Now} {p q : Steps} → d ≤ c → Leads c x y p q → Leads d x y p q
less h l = record { moves = fewer h l.moves; leads = l.leads }

-- a result that `?` hands on, of any kind
pub handed_on : {V : Type 0} (R : Result V SyntaxFault → Type 0) {e : SyntaxFault} (r : Result V SyntaxFault) → IsErrAnd r (λ d. d ≡ e) → R (Err e) → R r
handed_on R {e} r h s = let q = err_from_is_err_and r h in subst R (sym q.1) (subst (λ d. R (Err d)) (sym q.2) s)

pub two_is : (b : Binary) {p q : ℕ} {E E' F F' : Term} → p ≡ q → E ≡ E' → F ≡ F' → binary p b E F ≡ binary q b E' F'
two_is b {p} {q} {E} {E'} {F} {F'} e f g = ap (λ n. binary n b E F) e ∙ ap₂ (binary q b) f g

pub choice_is : {p : ℕ} {E E' F G : Term} → E ≡ E' → choice p E F G ≡ choice p E' F G
choice_is {p} {E} {E'} {F} {G} e = ap (λ T. choice p T F G) e

pub first_is : (h : Term → Term → Steps) {E E' F : Term} → E ≡ E' → h E F ≡ h E' F
first_is h {E} {E'} {F} e = ap (λ T. h T F) e

-- a word that was passed leaves room for a binder, and two for two
pub room_name : {c : ℕ} {x y : Now} → Room x.ahead x.scope x.arena → Moves c x y → 1 < c → HasRoomForNames 1 y
room_name h m p = omega (arith, h.names, m.words, m.count)

pub room_names : {c : ℕ} {x y : Now} → Room x.ahead x.scope x.arena → Moves c x y → 3 < c → HasRoomForNames 2 y
room_names h m p = omega (arith, h.names, m.words, m.count)

-- the name that was read means a cell, or nothing
abbrev meaning : Now → Span → ℕ → Steps
meaning x n at = meant (find (span_bytes (text x.ahead) n) (binders x)) (find_entry (span_bytes (text x.ahead) n) (entries x)) at

meaning_same : {c : ℕ} (x y : Now) (n : Span) (at at' : ℕ) → Moves c x y → at' ≡ at → meaning y n at' ≡ meaning x n at
meaning_same x y n at at' m e =
    ap₂ (λ t xs. meant (find (span_bytes t n) (opened t xs)) (find_entry (span_bytes t n) (entry_names t y.entered)) at') m.text m.names
    ∙ ap (λ es. meant (find (span_bytes (text x.ahead) n) (binders x)) (find_entry (span_bytes (text x.ahead) n) (entry_names (text x.ahead) es)) at') m.entered
    ∙ ap (meaning x n) e

pub meaning_then : {c : ℕ} {x y : Now} {p : Steps} (n : Span) {at at' : ℕ} (node : Node) (f : ℕ → Term) → at' ≡ at → Leads c x y p (meaning x n at) → Means y at' n (Ok node) → Leads c x y p (give (form node f))
meaning_then {x = x} {y} n {at} {at'} node f e l h = like (sym (meaning_same x y n at at' l.moves e) ∙ h.2 f) l

pub meaning_halt : {c : ℕ} {x y : Now} {p : Steps} (n : Span) {at at' : ℕ} (e : SyntaxFault) → at' ≡ at → Leads c x y p (meaning x n at) → Means y at' n (Err e) → Stopped x y p e
meaning_halt {x = x} {y} n {at} {at'} e g l h =
    halt (like (sym (meaning_same x y n at at' l.moves g) ∙ h.0) l)
    (record { moves = stays y; follows = subst (λ (v : SyntaxFault). Follows (entries y) (end y) (refuse 4 at') (words_left y) (refusal (fault_number v) (fault_place v))) (sym h.1) refused })

-- a binder was open on the way, and is closed again
module _ (r r' : Ahead) (es es' : List Span) (s s₁ s₂ s₃ : Scope) (a b : Arena) (n : Span) (was : ℕ) (e : vec_items s₁.names ≡ vec_items s.names ++ n ∷ []) (f : vec_items s₃.names ≡ take was (vec_items s₂.names)) (w : was ≡ vec_len s.names) where
  closed_moves : {c : ℕ} → Moves c (at r es s₁ a) (at r' es' s₂ b) → Moves c (at r es s a) (at r' es' s₃ b)
  closed_moves m =
      let same : vec_items s₃.names ≡ vec_items s.names = closed_again (vec_items s.names) (vec_items s₁.names) (vec_items s₂.names) (vec_items s₃.names) n was e m.names f (w ∙ s.names.ok.0) in
      record {
        text = m.text;
        end = m.end;
        entered = m.entered;
        names = same;
        count = s₃.names.ok.0 ∙ ap length same ∙ sym s.names.ok.0;
        kept = m.kept;
        budget = m.budget;
        words = m.words;
        cells = m.cells;
      }

  again : (pre : List ℕ → List Name) → under pre (at r es s₁ a) ≡ under (λ z. pre z ++ span_bytes z n ∷ []) (at r es s a)
  again pre =
      ap (λ sc. pre (text r) ++ sc) (ap (opened (text r)) e ∙ opened_push (text r) (vec_items s.names) n)
      ∙ sym (append_assoc (pre (text r)) (span_bytes (text r) n ∷ []) (binders (at r es s a)))

  followed : (pre : List ℕ → List Name) (g : Sign) (z : Reading) → Follows (entries (at r es s a)) r.end (production (entries (at r es s a)) r.end g (under pre (at r es s₁ a)) (left r)) (left r) z → Follows (entries (at r es s a)) r.end (production (entries (at r es s a)) r.end g (under (λ y. pre y ++ span_bytes y n ∷ []) (at r es s a)) (left r)) (left r) z
  followed pre g z h = subst (λ sc. Follows (entries (at r es s a)) r.end (production (entries (at r es s a)) r.end g sc (left r)) (left r) z) (again pre) h

  closed_at : (pre : List ℕ → List Name) (g : Sign) (c : ℕ) (t : Result ℕ SyntaxFault) → AsUnder pre c g (at r es s₁ a) (at r' es' s₂ b) t → AsUnder (λ z. pre z ++ span_bytes z n ∷ []) c g (at r es s a) (at r' es' s₃ b) t
  closed_at pre g c (Ok i) h =
      record { found = record { moves = closed_moves h.found.moves; within = h.found.within; follows = followed pre g _ h.found.follows } }
  closed_at pre g c (Err d) h = record { found = record { moves = closed_moves h.found.moves; follows = followed pre g _ h.found.follows } }

pub closed_under : {x x₁ x₂ x₃ : Now} {n : Span} {was c : ℕ} {t : Result ℕ SyntaxFault} (pre : List ℕ → List Name) (g : Sign) → OpensBinder n x x₁ → was ≡ vec_len x.scope.names → AsUnder pre c g x₁ x₂ t → ClosesBinders was x₂ x₃ → AsUnder (λ z. pre z ++ span_bytes z n ∷ []) c g x x₃ t
closed_under {x} {x₁} {x₂} {x₃} {n} {was} {c} {t} pre g o w h f =
    subst (λ v. AsUnder (λ z. pre z ++ span_bytes z n ∷ []) c g x v t) (sym f.same)
    (closed_at x.ahead x₂.ahead x.entered x₂.entered x.scope x₁.scope x₂.scope x₃.scope x.arena x₂.arena n was o.names f.names w pre g c t
    (subst (λ v. AsUnder pre c g v x₂ t) o.same h))

-- the next word is a row of a table of marks
table_fits : {V : Type 0} (rows : List (Mark × V)) (es : List Name) (n : ℕ) (f : V → Steps) (u : Steps) (ws : List Word) (v : V) (z : Reading) → next_chosen rows ws ≡ Some v → Follows es n (f v) (past ws) z → Follows es n (choosing rows f u) ws z
table_fits [] es n f u [] v z e h = absurd (none-some _ e)
table_fits [] es n f u (w ∷ ws) v z e h = absurd (none-some _ e)
table_fits (row ∷ rows) es n f u [] v z e h = absurd (none-some _ e)
table_fits (row ∷ rows) es n f u (w ∷ ws) v z e h = by_test (is_token row.0 w.token) refl e (λ k. table_fits rows es n f u (w ∷ ws) v z k h)
  where
    by_test : (b : Bool) → is_token row.0 w.token ≡ b → cond b (Some row.1) (chosen rows w.token) ≡ Some v → (chosen rows w.token ≡ Some v → Follows es n (choosing rows f u) (w ∷ ws) z) → Follows es n (choosing (row ∷ rows) f u) (w ∷ ws) z
    by_test true t k g = passed t (subst (λ y. Follows es n (f y) ws z) (sym (ap (λ o. unwrap_or o row.1) k)) h)
    by_test false t k g = turned t (g k)

table_misses : {V : Type 0} (rows : List (Mark × V)) (es : List Name) (n : ℕ) (f : V → Steps) (u : Steps) (ws : List Word) (z : Reading) → next_chosen rows ws ≡ None → Follows es n u ws z → Follows es n (choosing rows f u) ws z
table_misses [] es n f u ws z e h = h
table_misses (row ∷ rows) es n f u [] z e h = turned refl (table_misses rows es n f u [] z refl h)
table_misses (row ∷ rows) es n f u (w ∷ ws) z e h = by_test (is_token row.0 w.token) refl e (λ k. table_misses rows es n f u (w ∷ ws) z k h)
  where
    by_test : (b : Bool) → is_token row.0 w.token ≡ b → cond b (Some row.1) (chosen rows w.token) ≡ None → (chosen rows w.token ≡ None → Follows es n (choosing rows f u) (w ∷ ws) z) → Follows es n (choosing (row ∷ rows) f u) (w ∷ ws) z
    by_test true t k g = absurd (none-some _ (sym k))
    by_test false t k g = turned t (g k)

-- what was picked is the first row that the next word is
picked_from : {V : Type 0} (rows : List (Mark × V)) (s : List ℕ) (n : Option Lexeme) (ls : List Lexeme) (o : Option V) {P : Lexeme → Type 0} → MatchOption n (o ≡ None) P → ((l : Lexeme) → P l → (x : List ℕ) → o ≡ chosen rows (as_token l.kind x)) → o ≡ next_chosen rows (words s (coming n ls))
picked_from rows s None ls o h f = h
picked_from rows s (Some l) ls o h f = f l h _

pub picked : {V : Type 0} (rows : List (Mark × V)) (r : Ahead) (o : Option V) {P : Lexeme → Type 0} → MatchOption r.next (o ≡ None) P → ((l : Lexeme) → P l → (x : List ℕ) → o ≡ chosen rows (as_token l.kind x)) → o ≡ next_chosen rows (left r)
picked rows r o h f = picked_from rows (script r.reader) r.next _ o h f

chosen_fewer : {V : Type 0} (rows : List (Mark × V)) (ws us : List Word) (v : V) → next_chosen rows ws ≡ Some v → us ≡ past ws → length us + 1 ≤ length ws
chosen_fewer rows [] us v t e = absurd (none-some _ t)
chosen_fewer rows (w ∷ ws) us v t e = omega (arith, ap length e)

module _ {c : ℕ} {x : Now} {r r' : Ahead} {es : List Span} {s : Scope} {a : Arena} {p : Steps} {V : Type 0} (rows : List (Mark × V)) (f : V → Steps) (P : Lexeme → Option V → Type 0) where
  pub chose : (u : Steps) (v : V) → Leads c x (at r es s a) p (choosing rows f u) → Takes P r r' (Some v) → ((l : Lexeme) → P l (Some v) → (y : List ℕ) → Some v ≡ chosen rows (as_token l.kind y)) → Leads (c + 2) x (at r' es s a) p (f v)
  chose u v l h g =
      let is = sym (picked rows r (Some v) h.found g) in
      then l (record {
        moves = looks es s a h.same h.end (omega (arith, chosen_fewer rows (left r) (left r') v is h.rest));
        leads = λ z k. table_fits rows (entries (at r es s a)) r.end f u (left r) v z is (subst (λ ws. Follows (entries (at r es s a)) r.end (f v) ws z) h.rest k);
      })

  pub chose_none : (u : Steps) → Leads c x (at r es s a) p (choosing rows f u) → Takes P r r' None → ((l : Lexeme) → P l None → (y : List ℕ) → None ≡ chosen rows (as_token l.kind y)) → Leads (c + 0) x (at r' es s a) p u
  chose_none u l h g =
      then l (record {
        moves = looks es s a h.same h.end (omega (arith, ap length h.rest));
        leads = λ z k. table_misses rows (entries (at r es s a)) r.end f u (left r) z (sym (picked rows r None h.found g)) (subst (λ ws. Follows (entries (at r es s a)) r.end u ws z) h.rest k);
      })

-- what stands for the row of a table that the next word is
abbrev pub quantified_at : Now → Binary → Steps
quantified_at x q = quantified q (binders x) (here (end x) (words_left x))

abbrev pub headed_at : Now → Unary → Steps
headed_at x w = headed (binders x) (unary (here (end x) (words_left x)) w)

abbrev pub sort_at : Now → ℕ → Steps
sort_at x n = give (sort (here (end x) (words_left x)) n)

-- what a let asks after its value
abbrev pub let_rest : ℕ → Span → Now → Term → Steps
let_rest p n x E = eat InWord (part expr (under (one_name n) x) (λ b. give (binary p Let E b)))

-- the last part gives the term
pub term_by : (q : List Name → (Term → Steps) → Steps) (pre : List ℕ → List Name) {c d : ℕ} {x y z : Now} (r : Result ℕ SyntaxFault) → ((f : Term → Steps) → Leads c x y (q (binders x) f) (part expr (under pre x) f)) → AsUnder pre d expr y z r → 1 ≤ c + d → ReadsTerm q x z r
term_by q pre (Ok i) l h w = record { found = (h.found.within, λ f. less w (then_part pre (l f) h.found)) }
term_by q pre (Err e) l h w = record { found = λ f. halt_part pre (l f) h.found }
