-- What a reader over the lexemes of a script has at hand.
use Rattle.std.proofs.Common.{◌≡◌, ℕ, zero, suc, ◌+◌, ◌-◌, ◌<◌, List, [], ◌∷◌, drop, refl, ap, ◌∙◌, add-one, arith}
use Rattle.script.specs.declared.token.Mark.{Mark}
use Rattle.script.specs.declared.token.Kind.{Kind}
use Rattle.script.specs.declared.token.Kind.TheVariants.{Name, Number, Fixed, First, NoToken}
use Rattle.script.specs.Lexemes.{Lexeme}
use Rattle.script.specs.Names.{bytes_at}
use Rattle.script.specs.Statements.{statement_kind}
use Rattle.grammar.specs.Words.{Word, as_token, words}
use Rattle.grammar.specs.Grammar.{Sign, production, past, is_token, is, begins_token, begins, number_in, next_number, name_in, next_name}
use Rattle.grammar.specs.Reader.{reading, follow}
use Rattle.grammar.specs.Statements.{kind_in, kind_of}

kind_token : (k : Kind) (x : List ℕ) → kind_in (as_token k x) ≡ statement_kind k
kind_token Name x = refl
kind_token (Number n) x = refl
kind_token (Fixed m) x = refl
kind_token (First w) x = refl
kind_token NoToken x = refl

-- a statement's kind by its words, and by its first lexeme
pub kind_first : (s : List ℕ) (l : Lexeme) (ls : List Lexeme) → kind_of (words s (l ∷ ls)) ≡ statement_kind l.kind
kind_first s l ls = kind_token l.kind _

-- the tests on words, by the kind of the first lexeme
is_kind : (m : Mark) (k : Kind) (x y : List ℕ) → is_token m (as_token k x) ≡ is_token m (as_token k y)
is_kind m Name x y = refl
is_kind m (Number n) x y = refl
is_kind m (Fixed j) x y = refl
is_kind m (First w) x y = refl
is_kind m NoToken x y = refl

begins_kind : (k : Kind) (x y : List ℕ) → begins_token (as_token k x) ≡ begins_token (as_token k y)
begins_kind Name x y = refl
begins_kind (Number n) x y = refl
begins_kind (Fixed j) x y = refl
begins_kind (First w) x y = refl
begins_kind NoToken x y = refl

number_kind : (k : Kind) (x y : List ℕ) → number_in (as_token k x) ≡ number_in (as_token k y)
number_kind Name x y = refl
number_kind (Number n) x y = refl
number_kind (Fixed j) x y = refl
number_kind (First w) x y = refl
number_kind NoToken x y = refl

module _ (s : List ℕ) (l : Lexeme) (ls : List Lexeme) {k : Kind} (e : l.kind ≡ k) where
  pub is_first : (m : Mark) → is m (words s (l ∷ ls)) ≡ is_token m (as_token k [])
  is_first m = is_kind m l.kind _ [] ∙ ap (λ k. is_token m (as_token k [])) e

  pub begins_first : begins (words s (l ∷ ls)) ≡ begins_token (as_token k [])
  begins_first = begins_kind l.kind _ [] ∙ ap (λ k. begins_token (as_token k [])) e

  pub number_first : next_number (words s (l ∷ ls)) ≡ number_in (as_token k [])
  number_first = number_kind l.kind _ [] ∙ ap (λ k. number_in (as_token k [])) e

  pub name_first : next_name (words s (l ∷ ls)) ≡ name_in (as_token k (bytes_at s l.at l.len))
  name_first = ap (λ k. name_in (as_token k (bytes_at s l.at l.len))) e

-- one deeper
pub reading_more : (entries : List (List ℕ)) (end n : ℕ) (g : Sign) (sc : List (List ℕ)) (ws : List Word) → 0 < n → reading entries end n g sc ws ≡ follow entries end (reading entries end (n - 1)) (production entries end g sc ws) ws
reading_more entries end zero g sc ws h = absurd (omega arith)
reading_more entries end (suc n) g sc ws h = let e : n ≡ suc n - 1 = omega arith in ap (λ m. follow entries end (reading entries end m) (production entries end g sc ws) ws) e

past_next : (i : ℕ) (ws : List Word) → past (drop i ws) ≡ drop (suc i) ws
past_next zero [] = refl
past_next zero (w ∷ ws) = refl
past_next (suc i) [] = refl
past_next (suc i) (w ∷ ws) = past_next i ws

-- the words past the next, by their index
pub past_drop : (ws : List Word) (i : ℕ) → past (drop i ws) ≡ drop (i + 1) ws
past_drop ws i = rw add-one (past_next i ws)
