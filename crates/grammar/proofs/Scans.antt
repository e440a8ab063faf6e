-- The words of a text are those of its items.
use Rattle.std.proofs.Common.{◌≡◌, ℕ, suc, pred, ◌+◌, Bool, true, false, eqb, List, [], ◌∷◌, ◌++◌, length, take, sym, refl, ap, ◌∙◌, subst, ap₂, append_assoc, arith, length-append}
use lib.Seq.{take-append_seam}
use Rattle.std.specs.List.{AllByRecursion}
use Rattle.script.specs.declared.token.Kind.{Kind}
use Rattle.script.specs.declared.token.Piece.{Piece}
use Rattle.script.specs.Tokens.{piece, token}
use Rattle.grammar.specs.Words.{Token, as_token}
use Rattle.grammar.specs.Grammar.{begins}
use Rattle.grammar.proofs.Words.{put, with_word, words_of}
use Rattle.grammar.proofs.Pieces.{Item, space, shown, spelled, bytes}
use Rattle.grammar.proofs.Back.{laid, reach}

-- no byte ends a line
abbrev pub InLine : List ℕ → Type 0
InLine w = AllByRecursion (λ b. eqb b 10 ≡ false) w

-- the scanner finds the token x before r
pub record Scans (x : Token) (r : List ℕ) : Type 0 where
  pub head : ℕ
  pub tail : List ℕ
  pub kind : Kind
  pub spells : spelled x ≡ head ∷ tail
  pub in_line : InLine (head ∷ tail)
  pub means : as_token kind (head ∷ tail) ≡ x
  pub finds : (f : Bool) → piece f head (tail ++ r) ≡ token kind (suc (length tail))

abbrev pub width : Token → ℕ
width x = length (spelled x)

over : (w r : List ℕ) (at : ℕ) → InLine w → words_of (length w) false (w ++ r) at ≡ words_of 0 false r (at + length w)
over [] r at h = grind arith
over (b ∷ w) r at h = grind (arith, over w r (suc at) h.1)

scan_at : (x : Token) (k : Kind) (b : ℕ) (w r : List ℕ) (f : Bool) (at : ℕ) → InLine (b ∷ w) → as_token k (b ∷ w) ≡ x → piece f b (w ++ r) ≡ token k (suc (length w)) → words_of 0 f (b ∷ (w ++ r)) at ≡ put x at ∷ words_of 0 false r (at + suc (length w))
scan_at x k b w r f at e m h =
    ap₂ (λ (p : Piece) l. with_word p.kind (take p.len (b ∷ (w ++ r))) at (words_of (pred p.len) l (w ++ r) (suc at))) h e.0
    ∙ ap₂ (λ y ws. put y at ∷ ws) (ap (as_token k) (take-append_seam (b ∷ w) r) ∙ m) (over w r (suc at) e.1 ∙ ap (words_of 0 false r) (omega arith))

scan_token : (x : Token) (r : List ℕ) (f : Bool) (at : ℕ) → Scans x r → words_of 0 f (spelled x ++ r) at ≡ put x at ∷ words_of 0 false r (at + width x)
scan_token x r f at s =
    subst (λ w. words_of 0 f (w ++ r) at ≡ put x at ∷ words_of 0 false r (at + length w)) (sym s.spells) (scan_at x s.kind s.head s.tail r f at s.in_line s.means (s.finds f))

-- each token is found before what follows
abbrev pub Sound : List Item → List ℕ → Type 0
Sound [] r = Unit {0}
Sound (space ∷ ps) r = Sound ps r
Sound (shown x ∷ ps) r = Scans x (bytes ps ++ r) × Sound ps r

scan : (ps : List Item) (r : List ℕ) (at : ℕ) → Sound ps r → words_of 0 false (bytes ps ++ r) at ≡ laid width (λ p. words_of 0 false r p) ps at
scan [] r at h = refl
scan (space ∷ ps) r at h = scan ps r (suc at) h
scan (shown x ∷ ps) r at h =
    ap (λ bs. words_of 0 false bs at) (append_assoc (spelled x) (bytes ps) r)
    ∙ scan_token x (bytes ps ++ r) false at h.0
    ∙ ap (λ ws. put x at ∷ ws) (scan ps r (at + width x) h.1)

-- at a line's start too, as no item is a comment
pub scan_fresh : (ps : List Item) (r : List ℕ) (at : ℕ) (f : Bool) → begins (laid width (λ p. []) ps at) ≡ true → Sound ps r → words_of 0 f (bytes ps ++ r) at ≡ laid width (λ p. words_of 0 false r p) ps at
scan_fresh [] r at f e h = cc
scan_fresh (space ∷ ps) r at f e h = scan_space f
  where
    scan_space : (f : Bool) → words_of 0 f (32 ∷ (bytes ps ++ r)) at ≡ laid width (λ p. words_of 0 false r p) (space ∷ ps) at
    scan_space true = scan ps r (suc at) h
    scan_space false = scan ps r (suc at) h
scan_fresh (shown x ∷ ps) r at f e h =
    ap (λ bs. words_of 0 f bs at) (append_assoc (spelled x) (bytes ps) r)
    ∙ scan_token x (bytes ps ++ r) f at h.0
    ∙ ap (λ ws. put x at ∷ ws) (scan ps r (at + width x) h.1)

pub reach_length : (ps : List Item) (at : ℕ) → reach width ps at ≡ at + length (bytes ps)
reach_length [] at = omega arith
reach_length (space ∷ ps) at = reach_length ps (suc at) ∙ omega arith
reach_length (shown x ∷ ps) at = reach_length ps (at + width x) ∙ omega (arith, length-append (spelled x) (bytes ps))

both_in_line : (v w : List ℕ) → InLine v → InLine w → InLine (v ++ w)
both_in_line [] w g h = h
both_in_line (b ∷ v) w g h = (g.0, both_in_line v w g.1 h)

pub text_in_line : (ps : List Item) (r : List ℕ) → Sound ps r → InLine (bytes ps)
text_in_line [] r h = tt
text_in_line (space ∷ ps) r h = (refl, text_in_line ps r h)
text_in_line (shown x ∷ ps) r h = both_in_line (spelled x) (bytes ps) (subst InLine (sym h.0.spells) h.0.in_line) (text_in_line ps r h.1)
