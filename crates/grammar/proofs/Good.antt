-- A name of a script that begins with a letter is good.
use Rattle.std.proofs.Common.{◌≡◌, ℕ, zero, suc, pred, Bool, true, false, cond, eqb, List, [], ◌∷◌, get_or, take, drop, Some, None, Option, sym, refl, ap, ◌∙◌, subst, one-add, arith, rules}
use Rattle.std.specs.Char.{is_ascii_alphabetic}
use Rattle.std.specs.List.{prefix_len, AllByRecursion}
use Rattle.std.specs.Option.{IfSome, option_or, unwrap_or}
use Rattle.std.proofs.lemmas.Bool.{cond-true, or_left, and_parts, leb-true}
use Rattle.std.proofs.lemmas.Grind.{common_steps}
use Rattle.script.specs.declared.token.Kind.{Kind}
use Rattle.script.specs.declared.token.Kind.TheVariants.{Name, NoToken}
use Rattle.script.specs.declared.token.Piece.{Piece}
use Rattle.script.specs.Lexemes.{Lexeme}
use Rattle.script.specs.Names.{bytes_at}
use Rattle.script.specs.Tokens.{letter, word_byte, spelt, reserved, word_kind, word_piece, token_piece, piece, sort_words, binder_words, part_words, first_words}
use Rattle.script.specs.Parts.{parts, parts_from, line_start, with_lexeme, lexemes, lexemes_from}
use Rattle.script.specs.Statements.{is_name}
use Rattle.script.proofs.Pieces.{leads}
use Rattle.grammar.specs.Text.{GoodName}
use Rattle.grammar.proofs.Words.{drop_more}

-- q of the kind of each row
abbrev pub AllRows : (Kind → Type 0) → List (List ℕ × Kind) → Type 0
AllRows q rows = AllByRecursion (λ (r : List ℕ × Kind). q r.1) rows

spelt_by : (q : Kind → Type 0) (rows : List (List ℕ × Kind)) (w : List ℕ) → AllRows q rows → IfSome (spelt rows w) q
spelt_by q [] w h = tt
spelt_by q (r ∷ rows) w h = grind (arith, spelt_by q rows w h.1)

or_by : (q : Kind → Type 0) (x y : Option Kind) → IfSome x q → IfSome y q → IfSome (option_or x y) q
or_by q None y h k = k
or_by q (Some x) y h k = h

-- what holds of the kind of each reserved word
pub reserved_by : (q : Kind → Type 0) (w : List ℕ) → AllRows q sort_words → AllRows q binder_words → AllRows q part_words → AllRows q first_words → IfSome (reserved w) q
reserved_by q w a b c d =
    or_by q (spelt sort_words w) _ (spelt_by q sort_words w a) (or_by q (spelt binder_words w) _ (spelt_by q binder_words w b)
    (or_by q (spelt part_words w) _ (spelt_by q part_words w c) (spelt_by q first_words w d)))

-- no reserved word is a name
abbrev NoName : Option Kind → Type 0
NoName o = IfSome o (λ k. is_name k ≡ false)

reserved_no_name : (w : List ℕ) → NoName (reserved w)
reserved_no_name w =
    reserved_by (λ k. is_name k ≡ false) w (refl, (refl, (refl, (refl, tt)))) (refl, (refl, (refl, (refl, (refl, (refl, (refl, tt)))))))
    (refl, (refl, (refl, (refl, (refl, (refl, (refl, tt))))))) (refl, (refl, (refl, (refl, (refl, (refl, (refl, tt)))))))

free_word : (o : Option Kind) (k : Kind) → NoName o → unwrap_or o k ≡ Name → (o ≡ None) × (k ≡ Name)
free_word o k n e = grind arith

short_word : (t : Bool) → cond t Name NoToken ≡ Name → t ≡ true
short_word t e = grind arith

pub word_good : (w : List ℕ) → AllByRecursion (λ b. word_byte b ≡ true) w → word_kind w ≡ Name → is_ascii_alphabetic (get_or w 0 0) ≡ true → GoodName w
word_good w h e l = grind (arith, free_word, reserved_no_name, short_word, leb-true, and_parts)

-- what begins with a letter is a word
letter_piece : (f : Bool) (b : ℕ) (bs : List ℕ) → is_ascii_alphabetic b ≡ true → piece f b bs ≡ word_piece (b ∷ bs)
unfolding token_piece
letter_piece f b bs l = search rules

piece_good : (f : Bool) (b : ℕ) (bs : List ℕ) → is_ascii_alphabetic b ≡ true → (piece f b bs).kind ≡ Some Name → GoodName (take (piece f b bs).len (b ∷ bs))
piece_good f b bs l e =
    let q = letter_piece f b bs l in
    let n : prefix_len word_byte (b ∷ bs) ≡ suc (prefix_len word_byte bs) = cond-true (word_byte b) _ _ (or_left (letter b) _ (or_left (is_ascii_alphabetic b) _ l)) ∙ one-add (prefix_len word_byte bs) in
    let k : Some (word_kind (take (prefix_len word_byte (b ∷ bs)) (b ∷ bs))) ≡ Some Name = sym (ap (λ (p : Piece). p.kind) q) ∙ e in
    subst (λ (p : Piece). GoodName (take p.len (b ∷ bs))) (sym q)
    (word_good (take (prefix_len word_byte (b ∷ bs)) (b ∷ bs)) (leads word_byte (b ∷ bs)) (cc)
    (ap (λ m. is_ascii_alphabetic (get_or (take m (b ∷ bs)) 0 0)) n ∙ l))

byte_at : (s : List ℕ) (at b : ℕ) (bs : List ℕ) → b ∷ bs ≡ drop at s → get_or s at 0 ≡ b
byte_at s at b bs e = grind (arith, common_steps)

-- what holds of each lexeme, if of each piece's that is one
abbrev pub IfLexeme : (Lexeme → Type 0) → Piece → ℕ → Type 0
IfLexeme P p at = IfSome p.kind (λ k. P (record { kind = k; at = at; len = p.len }))

with_by : (P : Lexeme → Type 0) (p : Piece) (at : ℕ) (ls : List Lexeme) → IfLexeme P p at → AllByRecursion P ls → AllByRecursion P (with_lexeme p.kind at p.len ls)
with_by P p at ls h k = grind arith

module _ (P : Lexeme → Type 0) (s : List ℕ) (each : (f : Bool) (b at : ℕ) (bs : List ℕ) → b ∷ bs ≡ drop at s → IfLexeme P (piece f b bs) at) where
  lexemes_by : (k : ℕ) (f : Bool) (bs : List ℕ) (at : ℕ) → bs ≡ drop at s → AllByRecursion P (lexemes (parts k f bs at))
  lexemes_by zero f [] at e = tt
  lexemes_by (suc k) f [] at e = tt
  lexemes_by zero f (b ∷ bs) at e = with_by P (piece f b bs) at _ (each f b at bs e) (lexemes_by (pred (piece f b bs).len) (eqb b 10) bs (suc at) (drop_more s at b bs e))
  lexemes_by (suc k) f (b ∷ bs) at e = lexemes_by k (eqb b 10) bs (suc at) (drop_more s at b bs e)

  pub all_lexemes : (at : ℕ) → AllByRecursion P (lexemes_from s at)
  unfolding lexemes_from parts_from
  all_lexemes at = lexemes_by 0 (line_start s at) (drop at s) at refl

abbrev pub NamedGood : List ℕ → Lexeme → Type 0
NamedGood s l = l.kind ≡ Name → is_ascii_alphabetic (get_or s l.at 0) ≡ true → GoodName (bytes_at s l.at l.len)

named_good : (s : List ℕ) (f : Bool) (b at : ℕ) (bs : List ℕ) → b ∷ bs ≡ drop at s → (o : Option Kind) → (piece f b bs).kind ≡ o → IfSome o (λ k. NamedGood s (record { kind = k; at = at; len = (piece f b bs).len }))
named_good s f b at bs e None i = tt
named_good s f b at bs e (Some k) i = λ n l.
    subst GoodName (ap (take (piece f b bs).len) e) (piece_good f b bs (ap is_ascii_alphabetic (sym (byte_at s at b bs e)) ∙ l) (i ∙ ap Some n))

-- each name among a script's lexemes
pub names_good : (s : List ℕ) (at : ℕ) → AllByRecursion (NamedGood s) (lexemes_from s at)
names_good s at = all_lexemes (NamedGood s) s (λ f b at bs e. named_good s f b at bs e (piece f b bs).kind refl) at
