-- A step of the scanner over the parts of a script.
use Rattle.std.proofs.Common.{◌≡◌, ℕ, zero, suc, pred, ◌+◌, ◌-◌, ◌<◌, ◌≤◌, Bool, true, false, ◌&&◌, ◌||◌, eqb, List, [], ◌∷◌, length, get_or, drop, Some, None, codes, Option, sym, refl, ap, ◌∙◌, subst, ap₂, arith, length-drop}
use Rattle.std.specs.Option.{option_or, unwrap_or}
use Rattle.std.specs.Char.{is_ascii_digit}
use Rattle.std.specs.List.{prefix_len, AllByRecursion}
use Rattle.std.proofs.lemmas.List.{get_or-drop, drop-drop}
use Rattle.std.proofs.lemmas.List.Sums.{prefix_len-le-length}
use Rattle.std.proofs.lemmas.Bool.{both_ways, cond_both, or_left, and_parts, eqb-true, ne_eqb}
use Rattle.script.specs.declared.token.Kind.{Kind}
use Rattle.script.specs.declared.token.Piece.{Piece}
use Rattle.script.specs.Tokens.{letter, word_byte, in_line, blank, begins_with, symbol, joining_symbols, single_symbols, token_piece, piece, next_piece}
use Rattle.script.specs.Parts.{parts, placed, line_start, parts_from}

-- a piece takes a byte, and none past the end
abbrev Fits : ℕ → Piece → Type 0
Fits n p = (0 < p.len) × (p.len ≤ suc n)

leads_one : (p : ℕ → Bool) (b : ℕ) (bs : List ℕ) → p b ≡ true → 0 < prefix_len p (b ∷ bs)
leads_one p b bs e = cond_both (p b) _ _ (λ n. 0 < n) (λ h. omega arith) (λ h. absurd (both_ways _ h e))

begins_fits : (w bs : List ℕ) → begins_with w bs ≡ true → length w ≤ length bs
begins_fits [] bs e = omega arith
begins_fits (x ∷ w) [] e = absurd (both_ways false refl e)
begins_fits (x ∷ w) (b ∷ bs) e = omega (arith, begins_fits w bs (and_parts (eqb x b) _ e).1)

-- a table's symbols take a byte each
symbol_fits : (ws : List (List ℕ × Kind)) (b : ℕ) (bs : List ℕ) (p : Piece) → AllByRecursion (λ (w : List ℕ × Kind). 0 < length w.0) ws → Fits (length bs) p → Fits (length bs) (unwrap_or (symbol ws (b ∷ bs)) p)
symbol_fits [] b bs p h k = k
symbol_fits (w ∷ ws) b bs p h k =
    cond_both (begins_with w.0 (b ∷ bs)) _ _ (λ o. Fits (length bs) (unwrap_or o p))
    (λ e. (h.0, begins_fits w.0 (b ∷ bs) e)) (λ e. symbol_fits ws b bs p h.1 k)

or_fits : (n : ℕ) (x y : Option Piece) (p : Piece) → Fits n (unwrap_or x p) → Fits n (unwrap_or y p) → Fits n (unwrap_or (option_or x y) p)
or_fits n None y p h k = k
or_fits n (Some q) y p h k = h

token_fits : (b : ℕ) (bs : List ℕ) → Fits (length bs) (token_piece b bs)
unfolding token_piece
token_fits b bs =
    cond_both (letter b) _ _ (Fits (length bs))
    (λ e. (leads_one word_byte b bs (or_left (letter b) _ e), prefix_len-le-length word_byte (b ∷ bs)))
    (λ e. cond_both (is_ascii_digit b) _ _ (Fits (length bs))
    (λ f. (leads_one is_ascii_digit b bs f, prefix_len-le-length is_ascii_digit (b ∷ bs)))
    (λ f. or_fits (length bs) (symbol joining_symbols (b ∷ bs)) (symbol single_symbols (b ∷ bs)) _
    (symbol_fits joining_symbols b bs _ (omega arith) (omega arith, omega arith))
    (symbol_fits single_symbols b bs _ (omega arith) (omega arith, omega arith))))

pub piece_fits : (fresh : Bool) (b : ℕ) (bs : List ℕ) → Fits (length bs) (piece fresh b bs)
piece_fits fresh b bs =
    cond_both (fresh && begins_with (codes "--") (b ∷ bs)) _ _ (Fits (length bs))
    (λ e. let d = eqb-true 45 b (and_parts (eqb 45 b) _ (and_parts fresh _ e).1).0 in
    (leads_one in_line b bs (ap in_line (sym d)), prefix_len-le-length in_line (b ∷ bs)))
    (λ e. cond_both (blank b) _ _ (Fits (length bs)) (λ f. (omega arith, omega arith)) (λ f. token_fits b bs))

-- the bytes passed over: the line is fresh if the last of them is LF
passed_over : (k : ℕ) (f : Bool) (bs : List ℕ) (at : ℕ) → parts (suc k) f bs at ≡ parts 0 (eqb (get_or bs k 0) 10) (drop (suc k) bs) (at + suc k)
passed_over zero f [] at = refl
passed_over (suc k) f [] at = refl
passed_over zero f (b ∷ bs) at = ap (parts 0 (eqb b 10) bs) (omega arith)
passed_over (suc k) f (b ∷ bs) at = passed_over k (eqb b 10) bs (suc at) ∙ ap (parts 0 (eqb (get_or bs k 0) 10) (drop (suc k) bs)) (omega arith)

from_piece : (p : Piece) (b : ℕ) (bs : List ℕ) (at : ℕ) → 0 < p.len → parts (pred p.len) (eqb b 10) bs (suc at) ≡ parts 0 (eqb (get_or (b ∷ bs) (p.len - 1) 0) 10) (drop p.len (b ∷ bs)) (at + p.len)
from_piece p b bs at h = by p.len h
  where
    by : (n : ℕ) → 0 < n → parts (pred n) (eqb b 10) bs (suc at) ≡ parts 0 (eqb (get_or (b ∷ bs) (n - 1) 0) 10) (drop n (b ∷ bs)) (at + n)
    by zero h = absurd (omega arith)
    by (suc n) h = passed_over n false (b ∷ bs) at ∙ ap (λ i. parts 0 (eqb (get_or (b ∷ bs) i 0) 10) (drop (suc n) (b ∷ bs)) (at + suc n)) (omega arith)

-- a line starts past some bytes if the last of them is LF
fresh_past : (s : List ℕ) (at n : ℕ) → 0 < n → eqb (get_or (drop at s) (n - 1) 0) 10 ≡ line_start s (at + n)
fresh_past s at n h =
    ap (λ b. eqb b 10) (get_or-drop at s (n - 1) 0 ∙ ap (λ i. get_or s i 0) (omega arith))
    ∙ ap (λ t. t || eqb (get_or s (at + n - 1) 0) 10) (sym (ne_eqb (at + n) 0 (omega arith)))

step_on : (f : Bool) (bs : List ℕ) (at : ℕ) (p : Piece) → next_piece f bs ≡ Some p → (parts 0 f bs at ≡ placed at p ∷ parts 0 (eqb (get_or bs (p.len - 1) 0) 10) (drop p.len bs) (at + p.len)) × (0 < p.len) × (p.len ≤ length bs)
step_on f [] at p e = let z : ◌≡◌ {A = ℕ} 0 1 = cc in absurd (omega arith)
step_on f (b ∷ bs) at p e =
    let is : piece f b bs ≡ p = cc in
    let fits : Fits (length bs) p = subst (Fits (length bs)) is (piece_fits f b bs) in
    (ap (λ (q : Piece). placed at q ∷ parts (pred q.len) (eqb b 10) bs (suc at)) is ∙ ap (λ ps. placed at p ∷ ps) (from_piece p b bs at fits.0), fits.0, fits.1)

-- the part at a place, and what comes after it
pub step_from : (s : List ℕ) (at : ℕ) (p : Piece) → next_piece (line_start s at) (drop at s) ≡ Some p → (parts_from s at ≡ placed at p ∷ parts_from s (at + p.len)) × (0 < p.len) × (p.len ≤ length (drop at s))
unfolding parts_from
step_from s at p e =
    let t = step_on (line_start s at) (drop at s) at p e in
    (t.0 ∙ ap₂ (λ f bs. placed at p ∷ parts 0 f bs (at + p.len)) (fresh_past s at p.len t.1) (drop-drop p.len at s), t.1, t.2)

pub end_from : (s : List ℕ) (at : ℕ) → next_piece (line_start s at) (drop at s) ≡ None → at ≤ length s → (parts_from s at ≡ []) × (at ≡ length s)
unfolding parts_from
end_from s at e h = by (drop at s) (length-drop at s) e
  where
    by : (bs : List ℕ) → length bs ≡ length s - at → next_piece (line_start s at) bs ≡ None → (parts 0 (line_start s at) bs at ≡ []) × (at ≡ length s)
    by [] l e = (refl, omega arith)
    by (b ∷ bs) l e = let z : ◌≡◌ {A = ℕ} 0 1 = cc in absurd (omega arith)
