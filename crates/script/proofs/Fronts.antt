-- A table's symbols, tried one by one at the front of bytes.
use Rattle.std.proofs.Common.{◌≡◌, ℕ, ◌+◌, ◌<◌, nat_le, Bool, true, false, ◌&&◌, eqb, List, [], ◌∷◌, length, get_or, take, drop, Some, sym, refl, ap, ◌∙◌, arith}
use Rattle.std.proofs.lemmas.Bool.Decides.{nat_tests}
use denote.Ref.{Bor}
use Rattle.std.specs.Str.{bytes_eq}
use Rattle.std.proofs.lemmas.List.{at_drop_more}
use Rattle.std.proofs.lemmas.Bool.{and_right, cond-true, cond-false}
use Rattle.script.specs.declared.token.Kind.{Kind}
use Rattle.script.specs.Tokens.{begins_with, token, symbol}
use Rattle.script.specs.Spellings.{rows}

pub same_front : (w bs : List ℕ) → bytes_eq w (take (length w) bs) ≡ begins_with w bs
same_front [] bs = refl
same_front (x ∷ w) [] = refl
same_front (x ∷ w) (b ∷ bs) = ap (λ t. eqb x b && t) (same_front w bs)

short : (w bs : List ℕ) → length bs < length w → begins_with w bs ≡ false
short [] bs h = absurd (omega arith)
short (x ∷ w) [] h = refl
short (x ∷ w) (b ∷ bs) h = and_right (eqb x b) _ (short w bs (omega arith))

pub short_front : (w bs : List ℕ) → length bs < length w → nat_le (length w) (length bs) ≡ begins_with w bs
short_front w bs h = grind (arith, nat_tests) ∙ sym (short w bs h)

module _ (table : List (Bor (List ℕ) × Kind)) (i : ℕ) (d : Bor (List ℕ) × Kind) (bs : List ℕ) where
  abbrev Starts : Bool → Type 0
  Starts t = t ≡ begins_with (get_or table i d).0.now bs

  pub symbol_here : i < length table → Starts true → symbol (rows (drop i table)) bs ≡ Some (token (get_or table i d).1 (length (get_or table i d).0.now))
  symbol_here h e = at_drop_more (λ t. symbol (rows t) bs) table i d h ∙ cond-true _ _ _ (sym e)

  pub symbol_later : i < length table → Starts false → symbol (rows (drop i table)) bs ≡ symbol (rows (drop (i + 1) table)) bs
  symbol_later h e = at_drop_more (λ t. symbol (rows t) bs) table i d h ∙ cond-false _ _ _ (sym e)
