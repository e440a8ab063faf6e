-- What is read as a statement is a sentence, and a sentence is read.
use Rattle.std.proofs.Common.{◌≡◌, ℕ, Bool, true, false, cond, List, [], get_or, Some, None, Option, refl, subst, arith}
use Rattle.std.specs.Char.{is_ascii_alphabetic}
use Rattle.script.specs.declared.statement.StatementKind.{StatementKind}
use Rattle.script.specs.declared.statement.StatementKind.TheVariants.{Def, Axiom, Check, Eval}
use Rattle.term.specs.Term.{Term}
use Rattle.grammar.specs.Words.{Word}
use Rattle.grammar.specs.Grammar.{Name, expr, Steps, give, refuse, ending, find_entry, part, past, Reading, tree, Follows}
use Rattle.grammar.specs.Grammar.Follows.{given, ended, parted}
use Rattle.grammar.specs.Phrases.{Calls, Phrase}
use Rattle.grammar.specs.Statements.{name_place, unless_known, new_name, statement, States}
use Rattle.grammar.specs.Statements.States.{of_kind, of_none}
use Rattle.grammar.specs.Sentences.{Enters, Sentence, Spoken, ReadSentences, SentencesRead}
use Rattle.grammar.specs.Sentences.Sentence.{a_def, a_typed_def, an_axiom, a_check, an_eval}
use Rattle.grammar.proofs.Phrases.{Leads, ate, fork, bound, parts, leads}
use Rattle.grammar.proofs.Phrases.Leads.{gave, at_the_end}
use Rattle.grammar.proofs.Whole.{phrases_read, read, stop, passes, misses, calls}

module _ (entries : List Name) (end : ℕ) where
  -- a sentence for each term that is given at the end
  abbrev Told : StatementKind → List Word → List Word → Term → Type 0
  Told k a z t = Sentence entries end k a t × (z ≡ [])

  at_end : {k : StatementKind} {a x b z : List Word} {u v t : Term} → Leads entries end (ending (give v)) b z t → Phrase entries end expr [] x b u → (Phrase entries end expr [] x [] u → Sentence entries end k a v) → Told k a z t
  at_end (at_the_end gave) p h = (h p, refl)

  entering : {P : Type 0} (p : ℕ) {s : Steps} {a z : List Word} {t : Term} → Leads entries end (new_name entries p s) a z t → (Enters entries a (past a) → Leads entries end s (past a) z t → P) → P
  entering {P} p {s} {a} {z} {t} l k = bound entries end l (λ x c l. by x c (is_ascii_alphabetic (get_or x 0 0)) (find_entry x entries) refl refl l)
    where
      by : (x : Name) → Calls x a (past a) → (b : Bool) (o : Option ℕ) → is_ascii_alphabetic (get_or x 0 0) ≡ b → find_entry x entries ≡ o → Leads entries end (cond b (unless_known o p s) (refuse 3 p)) (past a) z t → P
      by x c true None e f l = k (record { word = x; calls = c; letter = e; new = f }) l
      by x c true (Some j) e f l = elim l [ ]
      by x c false o e f l = elim l [ ]

  told : (k : StatementKind) (p : ℕ) (a : List Word) {z : List Word} {t : Term} → Leads entries end (statement k entries p) a z t → Told k a z t
  told Def p a l =
      entering p l (λ n l. fork entries end l
      (λ i l. parts entries end l (λ b T q l. ate entries end l (λ j l. parts entries end l (λ c E r l. at_end l r (λ r. a_typed_def n i q j r)))))
      (λ l. ate entries end l (λ i l. parts entries end l (λ c E r l. at_end l r (λ r. a_def n i r)))))
  told Axiom p a l = entering p l (λ n l. ate entries end l (λ i l. parts entries end l (λ c T r l. at_end l r (λ r. an_axiom n i r))))
  told Check p a l = parts entries end l (λ c E r l. at_end l r (λ r. a_check r))
  told Eval p a l = parts entries end l (λ c E r l. at_end l r (λ r. an_eval r))

  spoken : (ws us : List Word) (t : Term) {r : Reading} → States entries end ws r → r ≡ tree t us → Spoken entries end ws us t
  spoken ws us t (of_kind {k = k} e d) i =
      let s = told k (name_place end ws) (past ws) (leads entries end (subst (λ r. Follows entries end (statement k entries (name_place end ws)) (past ws) r) i d)) in
      record { kind = k; begins = e; sentence = s.0; whole = s.1 }
  spoken ws us t (of_none e) i = cc

  enters : (p : ℕ) (s : Steps) {a b : List Word} {r : Reading} → Enters entries a b → Follows entries end s b r → Follows entries end (new_name entries p s) a r
  enters p s {b = y} {r = r} n d = grind (arith, calls)

  to_end : {a : List Word} {E t : Term} {f : Term → Steps} → Phrase entries end expr [] a [] E → Follows entries end (f E) [] (tree t []) → Follows entries end (part expr [] f) a (tree t [])
  to_end {a} {E} p d = parted (phrases_read entries end [] a [] E p refl) d

  follows : (p : ℕ) {k : StatementKind} {a : List Word} {t : Term} → Sentence entries end k a t → Follows entries end (statement k entries p) a (tree t [])
  follows p (a_def n i q) = enters p _ n (misses entries end i refl (passes entries end i (to_end q (ended given))))
  follows p (a_typed_def n i q j r) = enters p _ n (passes entries end i (parted (read entries end q (stop j refl)) (passes entries end j (to_end r (ended given)))))
  follows p (an_axiom n i q) = enters p _ n (passes entries end i (to_end q (ended given)))
  follows p (a_check q) = to_end q (ended given)
  follows p (an_eval q) = to_end q (ended given)

pub read_sentences : ReadSentences
read_sentences entries end ws us t d = spoken entries end ws us t d refl

pub sentences_read : SentencesRead
sentences_read entries end ws k t e s = of_kind e (follows entries end (name_place end ws) s)
