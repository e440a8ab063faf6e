-- The end of a statement, and its name.
use Rattle.std.proofs.Common.{◌≡◌, ◌⊎◌, inl, inr, ℕ, ◌+◌, true, false, cond, List, [], ◌∷◌, get_or, Some, None, Ok, Err, vec_items, Option, Result, sym, refl, ap, ◌∙◌, subst}
use Rattle.std.specs.Char.{is_ascii_alphabetic}
use Rattle.std.proofs.lemmas.Bool.{both_ways, cond-true, cond-false}
use Rattle.script.specs.declared.statement.Span.{Span}
use Rattle.grammar.specs.Words.{Word}
use Rattle.grammar.specs.Grammar.{Name, here, find_entry, Steps, refuse, ending, Reading, refusal, Follows, refused, ended, overrun}
use Rattle.grammar.specs.Statements.{unless_known}
use Rattle.syntax.specs.declared.fault.SyntaxFault.{SyntaxFault}
use Rattle.syntax.specs.declared.fault.SyntaxFault.TheVariants.{Misfit, KnownName}
use Rattle.syntax.specs.Faults.{fault_number, fault_place}
use Rattle.syntax.specs.Look.{text, is_nil, span_bytes}
use Rattle.syntax.specs.Scopes.{opened}
use Rattle.syntax.specs.Parses.{Now, words_left, binders, entries, end, Leads, Stopped}
use Rattle.script.specs.declared.statement.StatementKind.{StatementKind}
use Rattle.syntax.specs.Reads.{Finishes, ParsedStatement}
use Rattle.syntax.proofs.Logic.{then, halt, stays, like}

pub nil_is : {X : Type 0} (xs : List X) → is_nil xs ≡ true → xs ≡ []
nil_is [] e = refl
nil_is (x ∷ xs) e = absurd (both_ways false refl e)

ended_by : (es : List Name) (end : ℕ) (q : Steps) (ws : List Word) (z : Reading) → is_nil ws ≡ true → Follows es end q ws z → Follows es end (ending q) ws z
ended_by es end q [] z e f = ended f
ended_by es end q (w ∷ ws) z e f = absurd (both_ways false refl e)

overrun_by : (es : List Name) (end : ℕ) (q : Steps) (ws : List Word) → is_nil ws ≡ false → Follows es end (ending q) ws (refusal 3 (here end ws))
overrun_by es end q [] e = absurd (both_ways _ e refl)
overrun_by es end q (w ∷ ws) e = overrun

pub finished : {c : ℕ} {x y : Now} {p q : Steps} → Leads c x y p (ending q) → Finishes y.ahead (Ok tt) → Leads (c + 0) x y p q
finished {x = x} {y} {p} {q} l h =
    then l (record { moves = stays y; leads = λ z f. ended_by (entries y) (end y) q (words_left y) z h.found f })

pub overran : {c : ℕ} {x y : Now} {p q : Steps} {e : SyntaxFault} → Leads c x y p (ending q) → Finishes y.ahead (Err e) → Stopped x y p e
overran {x = x} {y} {p} {q} {e} l h =
    halt l (record {
      moves = stays y;
      follows = subst (λ (v : SyntaxFault). Follows (entries y) (end y) (ending q) (words_left y) (refusal (fault_number v) (fault_place v))) (sym h.found.1) (overrun_by (entries y) (end y) q (words_left y) h.found.0);
    })

-- a statement's name, by its bytes
abbrev judged : Now → Span → ℕ → Steps → Steps
judged x n p q = cond (is_ascii_alphabetic (get_or (span_bytes (text x.ahead) n) 0 0)) (unless_known (find_entry (span_bytes (text x.ahead) n) (entries x)) p q) (refuse 3 p)

stops_with : {c : ℕ} {x y : Now} {p : Steps} (n at : ℕ) (e : SyntaxFault) → fault_number e ≡ n → fault_place e ≡ at → Leads c x y p (refuse n at) → Stopped x y p e
stops_with {x = x} {y} n at e f g l =
    halt l (record { moves = stays y; follows = subst (λ m. Follows (entries y) (end y) (refuse n at) (words_left y) (refusal m (fault_place e))) (sym f) (subst (λ m. Follows (entries y) (end y) (refuse n at) (words_left y) (refusal n m)) (sym g) refused) })

pub letterless : {c : ℕ} {x y : Now} {p : Steps} (n : Span) (at : ℕ) (q : Steps) (at' : ℕ) → at' ≡ at → Leads c x y p (judged x n at q) → is_ascii_alphabetic (get_or (span_bytes (text x.ahead) n) 0 0) ≡ false → Stopped x y p (Misfit at')
letterless n at q at' g l e = stops_with 3 at (Misfit at') refl g (like (cond-false _ _ _ e) l)

unknown_is : (o : Option ℕ) (p : ℕ) (q : Steps) → o ≡ None → unless_known o p q ≡ q
unknown_is o p q e = ap (λ v. unless_known v p q) e

known_is : (o : Option ℕ) (j p : ℕ) (q : Steps) → o ≡ Some j → unless_known o p q ≡ refuse 5 p
known_is o j p q e = ap (λ v. unless_known v p q) e

pub known_already : {c : ℕ} {x y : Now} {p : Steps} (n : Span) (at : ℕ) (q : Steps) (at' j : ℕ) → at' ≡ at → Leads c x y p (judged x n at q) → is_ascii_alphabetic (get_or (span_bytes (text x.ahead) n) 0 0) ≡ true → find_entry (span_bytes (text x.ahead) n) (entries x) ≡ Some j → Stopped x y p (KnownName at')
known_already n at q at' j g l e f = stops_with 5 at (KnownName at') refl g (like (cond-true _ _ _ e ∙ known_is _ j at q f) l)

pub new_one : {c : ℕ} {x y : Now} {p : Steps} (n : Span) (at : ℕ) (q : Steps) → Leads c x y p (judged x n at q) → is_ascii_alphabetic (get_or (span_bytes (text x.ahead) n) 0 0) ≡ true → find_entry (span_bytes (text x.ahead) n) (entries x) ≡ None → Leads c x y p q
new_one n at q l e f = like (cond-true _ _ _ e ∙ unknown_is _ at q f) l

-- no binder is open
pub none_open : (x : Now) → vec_items x.scope.names ≡ [] → binders x ≡ []
unfolding opened
none_open x e = ap (opened (text x.ahead)) e

pub of_kind : {a b : StatementKind} {x y : Now} {t : Result ℕ SyntaxFault} → a ≡ b → ParsedStatement b x y t → ParsedStatement a x y t
of_kind {a} {b} {x} {y} {t} e h = subst (λ v. ParsedStatement v x y t) (sym e) h

-- of two kinds that ask the same
pub of_either : {a b d : StatementKind} {x y : Now} {t : Result ℕ SyntaxFault} → (a ≡ b) ⊎ (a ≡ d) → ParsedStatement b x y t → ParsedStatement d x y t → ParsedStatement a x y t
of_either (inl e) h g = of_kind e h
of_either (inr e) h g = of_kind e g
