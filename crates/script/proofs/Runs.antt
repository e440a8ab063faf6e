-- The runs of a list of lexemes, one after the other.
use Rattle.std.proofs.Common.{◌≡◌, ℕ, ◌+◌, Bool, true, false, cond, ◌&&◌, List, [], ◌∷◌, length, get_or, is_some, Some, None, Option, refl, ap, ◌∙◌, ap₂, arith}
use Rattle.std.specs.Option.{option_or}
use Rattle.std.specs.Char.{is_ascii_alphabetic}
use Rattle.std.proofs.lemmas.Bool.{both_ways, cond-true, cond-false, cond_both}
use Rattle.script.specs.declared.token.Kind.{Kind}
use Rattle.script.specs.declared.token.Kind.TheVariants.{Name, Number, Fixed, First, NoToken}
use Rattle.script.specs.Lexemes.{Lexeme}
use Rattle.script.specs.declared.statement.StatementKind.{StatementKind}
use Rattle.script.specs.declared.statement.Tally.{Tally}
use Rattle.script.specs.Statements.{statement_kind, first_word, onto, runs, start_of, wrong_at, first_wrong, head, enters, is_name, span, entered}
use Rattle.script.specs.Walk.{none_yet, one_more, tally, until, from_next, begin_at}

-- where a first word or the end comes next, nothing is left of the statement
pub until_first : (l : Lexeme) (ls : List Lexeme) → first_word l ≡ true → until (l ∷ ls) ≡ []
unfolding until
until_first l ls e = cond-true _ _ _ e

pub until_more : (l : Lexeme) (ls : List Lexeme) → first_word l ≡ false → until (l ∷ ls) ≡ l ∷ until ls
unfolding until
until_more l ls e = cond-false _ _ _ e

pub from_first : (l : Lexeme) (ls : List Lexeme) → first_word l ≡ true → from_next (l ∷ ls) ≡ l ∷ ls
unfolding from_next
from_first l ls e = cond-true _ _ _ e

pub from_more : (l : Lexeme) (ls : List Lexeme) → first_word l ≡ false → from_next (l ∷ ls) ≡ from_next ls
unfolding from_next
from_more l ls e = cond-false _ _ _ e

-- the first run and the runs after it
pub runs_first : (l : Lexeme) (ls : List Lexeme) → runs (l ∷ ls) ≡ record { first = l; rest = until ls } ∷ runs (from_next ls)
unfolding until from_next
runs_first l [] = refl
runs_first l (m ∷ ms) = by (first_word m) (runs_first m ms)
  where
    by : (t : Bool) → runs (m ∷ ms) ≡ record { first = m; rest = until ms } ∷ runs (from_next ms) → onto l t (runs (m ∷ ms)) ≡ record { first = l; rest = cond t [] (m ∷ until ms) } ∷ runs (cond t (m ∷ ms) (from_next ms))
    by true e = refl
    by false e = ap (onto l false) e

pub runs_start : (s : List ℕ) (ls : List Lexeme) → start_of s (runs ls) ≡ begin_at s ls
runs_start s [] = refl
runs_start s (l ∷ ls) = ap (start_of s) (runs_first l ls)

-- the tally is the length and the first that is no token
tally_is : (t : Tally) (ls : List Lexeme) → tally t ls ≡ record { tokens = t.tokens + length ls; wrong = option_or t.wrong (first_wrong ls) }
tally_is t [] = ap₂ (λ n w. record { tokens = n; wrong = w }) (omega arith) (none_right t.wrong)
  where
    none_right : (o : Option ℕ) → o ≡ option_or o None
    none_right None = refl
    none_right (Some x) = refl
tally_is t (l ∷ ls) =
    tally_is (one_more t l) ls ∙ ap₂ (λ n w. record { tokens = n; wrong = w }) (omega arith) (or_assoc t.wrong (wrong_at l) (first_wrong ls))
  where
    or_assoc : (x y z : Option ℕ) → option_or (option_or x y) z ≡ option_or x (option_or y z)
    or_assoc None y z = refl
    or_assoc (Some x) y z = refl

pub tally_of : (l : Lexeme) (ls : List Lexeme) → tally (one_more none_yet l) ls ≡ record { tokens = length (l ∷ ls); wrong = first_wrong (l ∷ ls) }
tally_of l ls = tally_is none_yet (l ∷ ls) ∙ ap (λ n. record { tokens = n; wrong = first_wrong (l ∷ ls) }) (omega arith)

-- a first word is no name
nameless : (s : List ℕ) (k : Option StatementKind) (l : Lexeme) → first_word l ≡ true → entered s k (Some l) ≡ None
nameless s k l e = by l.kind (enters k) e
  where
    by : (x : Kind) (t : Bool) → is_some (statement_kind x) ≡ true → cond (t && (is_name x && is_ascii_alphabetic (get_or s l.at 0))) (Some (span l)) None ≡ None
    by Name t e = absurd (both_ways false refl e)
    by (Number n) t e = absurd (both_ways false refl e)
    by (Fixed m) t e = absurd (both_ways false refl e)
    by (First w) true e = refl
    by (First w) false e = refl
    by NoToken t e = absurd (both_ways false refl e)

pub named_until : (s : List ℕ) (k : Option StatementKind) (ls : List Lexeme) → entered s k (head ls) ≡ entered s k (head (until ls))
unfolding until
named_until s k [] = refl
named_until s k (l ∷ ls) =
    cond_both (first_word l) [] (l ∷ until ls) (λ ms. entered s k (Some l) ≡ entered s k (head ms)) (λ e. nameless s k l e) (λ e. refl)
