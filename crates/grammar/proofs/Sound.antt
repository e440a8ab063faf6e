-- The scanner finds the items of a printed term.
use Rattle.std.proofs.Common.{◌≡◌, ℕ, zero, suc, ◌+◌, ◌-◌, true, List, [], ◌∷◌, ◌++◌, length, refl, arith}
use Rattle.script.specs.declared.token.Mark.TheVariants.{TypeWord, KindWord, SortWord, Opens, OpensBrace, MatchWord, FstWord, SndWord, InlWord, InrWord, FunWord, PiWord, SigmaWord, ExistsWord, LetWord, Plus, Closes, ClosesBrace, Comma, Colon, Becomes, Maps, Bar, InWord, WithWord, EndWord}
use Rattle.script.specs.Tokens.{token_piece}
use Rattle.term.specs.declared.node.Unary.TheVariants.{Fun, Fst, Snd, Inl, Inr}
use Rattle.term.specs.declared.node.Binary.TheVariants.{Pi, Sigma, Exists, Typed, App, Pair, Pack, Unpack, Sum, Ascribe, Let}
use Rattle.term.specs.Term.{Term, sort, local, entry, unary, binary, choice}
use Rattle.grammar.specs.Words.{mark}
use Rattle.grammar.specs.Grammar.{Name}
use Rattle.grammar.specs.Text.{quiet, GoodNames, Printable}
use Rattle.grammar.proofs.Depths.{under_none, under, under_two, shallow}
use Rattle.grammar.proofs.Pieces.{Item, space, the, bound, bytes, printed}
use Rattle.grammar.proofs.Scans.{Scans, Sound}
use Rattle.grammar.proofs.Tokens.{number_sound, name_sound, binder_sound, word_sound, symbol_sound}

opened : {r : List ℕ} → Scans (mark Opens) r
unfolding token_piece
opened = symbol_sound Opens 40 [] refl (refl, tt) refl refl refl

closed : {r : List ℕ} → Scans (mark Closes) r
unfolding token_piece
closed = symbol_sound Closes 41 [] refl (refl, tt) refl refl refl

braced : {r : List ℕ} → Scans (mark OpensBrace) r
unfolding token_piece
braced = symbol_sound OpensBrace 123 [] refl (refl, tt) refl refl refl

unbraced : {r : List ℕ} → Scans (mark ClosesBrace) r
unfolding token_piece
unbraced = symbol_sound ClosesBrace 125 [] refl (refl, tt) refl refl refl

a_comma : {r : List ℕ} → Scans (mark Comma) r
unfolding token_piece
a_comma = symbol_sound Comma 44 [] refl (refl, tt) refl refl refl

a_colon : {r : List ℕ} → Scans (mark Colon) (32 ∷ r)
unfolding token_piece
a_colon = symbol_sound Colon 58 [] refl (refl, tt) refl refl refl

a_plus : {r : List ℕ} → Scans (mark Plus) r
unfolding token_piece
a_plus = symbol_sound Plus 43 [] refl (refl, tt) refl refl refl

a_bar : {r : List ℕ} → Scans (mark Bar) r
unfolding token_piece
a_bar = symbol_sound Bar 124 [] refl (refl, tt) refl refl refl

a_maps : {r : List ℕ} → Scans (mark Maps) r
unfolding token_piece
a_maps = symbol_sound Maps 61 (62 ∷ []) refl (refl, (refl, tt)) refl refl refl

a_becomes : {r : List ℕ} → Scans (mark Becomes) r
unfolding token_piece
a_becomes = symbol_sound Becomes 58 (61 ∷ []) refl (refl, (refl, tt)) refl refl refl

module _ (entries : List Name) (good : GoodNames entries) where
  pub sound : (d : ℕ) (t : Term) (ps : List Item) (r : List ℕ) → Printable (length entries) d t → quiet (bytes ps ++ r) ≡ true → Sound ps r → Sound (printed entries d t ps) r
  sound d (sort p zero) ps r h q s = (word_sound TypeWord (refl, refl, refl) q, s)
  sound d (sort p (suc zero)) ps r h q s = (word_sound KindWord (refl, refl, refl) q, s)
  sound d (sort p (suc (suc n))) ps r h q s = (word_sound SortWord (refl, refl, refl) refl, (number_sound (suc (suc n)) _ (omega arith) h.1 q, s))
  sound d (local p k) ps r h q s = (binder_sound (d - suc k) _ (omega arith) q, s)
  sound d (entry p j) ps r h q s = (name_sound _ _ q (good.good j h.1), s)
  sound d (unary p Fun E) ps r h q s =
      let l = shallow (length entries) (1 + d) E h in
      (opened, (word_sound FunWord (refl, refl, refl) refl, (binder_sound d _ (omega arith) refl, (a_maps, sound (suc d) E (the Closes ∷ ps) r (under (length entries) d E h) refl (closed, s)))))
  sound d (unary p Fst E) ps r h q s = (opened, (word_sound FstWord (refl, refl, refl) refl, sound d E (the Closes ∷ ps) r (under_none (length entries) d E h) refl (closed, s)))
  sound d (unary p Snd E) ps r h q s = (opened, (word_sound SndWord (refl, refl, refl) refl, sound d E (the Closes ∷ ps) r (under_none (length entries) d E h) refl (closed, s)))
  sound d (unary p Inl E) ps r h q s = (opened, (word_sound InlWord (refl, refl, refl) refl, sound d E (the Closes ∷ ps) r (under_none (length entries) d E h) refl (closed, s)))
  sound d (unary p Inr E) ps r h q s = (opened, (word_sound InrWord (refl, refl, refl) refl, sound d E (the Closes ∷ ps) r (under_none (length entries) d E h) refl (closed, s)))
  sound d (binary p Pi E F) ps r h q s =
      let l = shallow (length entries) d E h.0 in
      (opened, (word_sound PiWord (refl, refl, refl) refl, (opened, (binder_sound d _ l refl, (a_colon, sound d E _ r h.0 refl (closed, (a_comma, sound (suc d) F (the Closes ∷ ps) r (under (length entries) d F h.1) refl (closed, s))))))))
  sound d (binary p Sigma E F) ps r h q s =
      let l = shallow (length entries) d E h.0 in
      (opened, (word_sound SigmaWord (refl, refl, refl) refl, (opened, (binder_sound d _ l refl, (a_colon, sound d E _ r h.0 refl (closed, (a_comma, sound (suc d) F (the Closes ∷ ps) r (under (length entries) d F h.1) refl (closed, s))))))))
  sound d (binary p Exists E F) ps r h q s =
      let l = shallow (length entries) d E h.0 in
      (opened, (word_sound ExistsWord (refl, refl, refl) refl, (opened, (binder_sound d _ l refl, (a_colon, sound d E _ r h.0 refl (closed, (a_comma, sound (suc d) F (the Closes ∷ ps) r (under (length entries) d F h.1) refl (closed, s))))))))
  sound d (binary p Typed E F) ps r h q s =
      let l = shallow (length entries) d E h.0 in
      (opened, (word_sound FunWord (refl, refl, refl) refl, (opened, (binder_sound d _ l refl, (a_colon, sound d E _ r h.0 refl (closed, (a_maps, sound (suc d) F (the Closes ∷ ps) r (under (length entries) d F h.1) refl (closed, s))))))))
  sound d (binary p App E F) ps r h q s = (opened, sound d E (space ∷ printed entries d F (the Closes ∷ ps)) r h.0 refl (sound d F (the Closes ∷ ps) r (under_none (length entries) d F h.1) refl (closed, s)))
  sound d (binary p Pair E F) ps r h q s = (opened, sound d E _ r h.0 refl (a_comma, sound d F (the Closes ∷ ps) r (under_none (length entries) d F h.1) refl (closed, s)))
  sound d (binary p Pack E F) ps r h q s = (braced, sound d E _ r h.0 refl (a_comma, sound d F (the ClosesBrace ∷ ps) r (under_none (length entries) d F h.1) refl (unbraced, s)))
  sound d (binary p Unpack E F) ps r h q s =
      let l = shallow (length entries) (2 + d) F h.1 in
      (opened, (word_sound LetWord (refl, refl, refl) refl, (braced, (binder_sound d _ (omega arith) refl, (a_comma, (binder_sound (suc d) _ (omega arith) refl, (unbraced, (a_becomes, sound d E (space ∷ the InWord ∷ space ∷ printed entries (suc (suc d)) F (the Closes ∷ ps)) r h.0 refl (word_sound InWord (refl, refl, refl) refl, sound (suc (suc d)) F (the Closes ∷ ps) r (under_two (length entries) d F h.1) refl (closed, s))))))))))
  sound d (binary p Sum E F) ps r h q s = (opened, sound d E (space ∷ the Plus ∷ space ∷ printed entries d F (the Closes ∷ ps)) r h.0 refl (a_plus, sound d F (the Closes ∷ ps) r (under_none (length entries) d F h.1) refl (closed, s)))
  sound d (binary p Ascribe E F) ps r h q s = (opened, sound d E (space ∷ the Colon ∷ space ∷ printed entries d F (the Closes ∷ ps)) r h.0 refl (a_colon, sound d F (the Closes ∷ ps) r (under_none (length entries) d F h.1) refl (closed, s)))
  sound d (binary p Let E F) ps r h q s =
      let l = shallow (length entries) (1 + d) F h.1 in
      (opened, (word_sound LetWord (refl, refl, refl) refl, (binder_sound d _ (omega arith) refl, (a_becomes, sound d E (space ∷ the InWord ∷ space ∷ printed entries (suc d) F (the Closes ∷ ps)) r h.0 refl (word_sound InWord (refl, refl, refl) refl, sound (suc d) F (the Closes ∷ ps) r (under (length entries) d F h.1) refl (closed, s))))))
  sound d (choice p E F G) ps r h q s =
      let l = shallow (length entries) d E h.0 in
      let g : Sound (printed entries (suc d) G (space ∷ the EndWord ∷ the Closes ∷ ps)) r = sound (suc d) G _ r (under (length entries) d G h.2) refl (word_sound EndWord (refl, refl, refl) refl, (closed, s)) in
      let f : Sound (printed entries (suc d) F (space ∷ the Bar ∷ space ∷ the InrWord ∷ space ∷ bound d ∷ space ∷ the Maps ∷ space ∷ printed entries (suc d) G (space ∷ the EndWord ∷ the Closes ∷ ps))) r = sound (suc d) F _ r (under (length entries) d F h.1) refl (a_bar, (word_sound InrWord (refl, refl, refl) refl, (binder_sound d _ l refl, (a_maps, g)))) in
      (opened, (word_sound MatchWord (refl, refl, refl) refl, sound d E _ r h.0 refl (word_sound WithWord (refl, refl, refl) refl, (a_bar, (word_sound InlWord (refl, refl, refl) refl, (binder_sound d _ l refl, (a_maps, f)))))))
