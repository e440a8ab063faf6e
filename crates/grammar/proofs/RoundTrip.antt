-- Printed terms read back as themselves.
use Rattle.std.proofs.Common.{◌≡◌, ℕ, ◌+◌, ◌-◌, ◌<◌, true, false, ◌||◌, eqb, List, [], ◌∷◌, ◌++◌, length, get_or, drop, sym, ap, ◌∙◌, ap₂, subst₂, arith, length-append}
use lib.Seq.{drop-append_seam}
use Rattle.std.proofs.lemmas.List.{get_or-drop, drop-drop}
use Rattle.std.proofs.lemmas.Bool.{ne_eqb}
use Rattle.std.proofs.lemmas.Grind.{common_steps}
use Rattle.script.specs.Parts.{line_start, lexemes_from}
use Rattle.term.specs.Term.{Term}
use Rattle.grammar.specs.Words.{Word, words}
use Rattle.grammar.specs.Grammar.{Name, begins}
use Rattle.grammar.specs.Text.{quiet, GoodNames, Printable}
use Rattle.grammar.specs.RoundTrip.{ReadsAs, RoundTrip}
use Rattle.grammar.proofs.Back.{Back, back, starts, whole, laid}
use Rattle.grammar.proofs.Pieces.{Item, space, shown, spelled, bytes, printed, text_items}
use Rattle.grammar.proofs.Scans.{InLine, Sound, width, scan_fresh, reach_length, text_in_line}
use Rattle.grammar.proofs.Sound.{sound}
use Rattle.grammar.proofs.Words.{words_of, words_from}

module _ (entries : List Name) (end d at : ℕ) (k : ℕ → List Word) (t : Term) where
  -- as the items lie
  laid_back : (b : Back entries end width k d t [] at) → ReadsAs entries end d (laid width k (printed entries d t []) at) (k b.to) t
  laid_back b = record {
    term = b.term;
    same = b.same;
    as_atom = b.reads;
    as_expr = λ h. whole entries end width k b (grind arith) (grind arith) (grind arith) (grind arith);
  }

in_line_at : (w r : List ℕ) (i : ℕ) → InLine w → i < length w → eqb (get_or (w ++ r) i 0) 10 ≡ false
in_line_at w r i h l = grind (arith, common_steps)

-- past a text with no line's end no line starts
pub no_start : (s : List ℕ) (at : ℕ) (w r : List ℕ) → drop at s ≡ w ++ r → InLine w → 0 < length w → line_start s (at + length w) ≡ false
no_start s at w r e h l =
    ap (λ t. t || eqb (get_or s (at + length w - 1) 0) 10) (ne_eqb (at + length w) 0 (omega arith))
    ∙ ap (λ b. eqb b 10) (ap (λ i. get_or s i 0) (omega arith) ∙ sym (get_or-drop at s (length w - 1) 0) ∙ ap (λ bs. get_or bs (length w - 1) 0) e)
    ∙ in_line_at w r (length w - 1) h (omega arith)

-- the words past a text
pub words_past : (s : List ℕ) (at : ℕ) (w r : List ℕ) → drop at s ≡ w ++ r → InLine w → 0 < length w → words s (lexemes_from s (at + length w)) ≡ words_of 0 false r (at + length w)
words_past s at w r e h l =
    words_from s (at + length w)
    ∙ ap₂ (λ f bs. words_of 0 f bs (at + length w)) (no_start s at w r e h l) (sym (drop-drop (length w) at s) ∙ ap (drop (length w)) e ∙ drop-append_seam w r)

some_text : (ps : List Item) (r : List ℕ) (at : ℕ) → begins (laid width (λ p. []) ps at) ≡ true → Sound ps r → 0 < length (bytes ps)
some_text [] r at e h = cc
some_text (space ∷ ps) r at e h = omega arith
some_text (shown x ∷ ps) r at e h = omega (arith, length-append (spelled x) (bytes ps), ap length h.0.spells)

module _ (s : List ℕ) (at : ℕ) (entries : List Name) (end d : ℕ) (t : Term) (rest : List ℕ) where
  trip : drop at s ≡ bytes (printed entries d t []) ++ rest → GoodNames entries → Printable (length entries) d t → quiet rest ≡ true
      → ReadsAs entries end d (words s (lexemes_from s at)) (words s (lexemes_from s (at + length (bytes (printed entries d t []))))) t
  trip e good h q =
      let ps = printed entries d t [] in
      let k : ℕ → List Word = λ p. words_of 0 false rest p in
      let b = back entries end width k good d t [] at h in
      let first = starts entries end width (λ p. []) d t [] at in
      let found = sound entries good d t [] rest h q tt in
      subst₂ (λ ws us. ReadsAs entries end d ws us t)
      (sym (words_from s at ∙ ap (λ bs. words_of 0 (line_start s at) bs at) e ∙ scan_fresh ps rest at (line_start s at) first found))
      (ap k (b.reached ∙ reach_length ps at) ∙ sym (words_past s at (bytes ps) rest e (text_in_line ps rest found) (some_text ps rest at first found)))
      (laid_back entries end d at k t b)

pub round_trip : RoundTrip
round_trip s at entries end d t rest e good h q = rw text_items (trip s at entries end d t rest (rw text_items at e) good h q)
