-- How tokens are written, and what a list of bytes begins with.
use Rattle.std.specs.Prelude.{ℕ, Bool, true, false, cond, not, ◌&&◌, ◌||◌, List, [], ◌∷◌, length, take, Some, None, codes, Option, ◌==◌, nat_le}
use Rattle.std.specs.Option.{option_or, unwrap_or}
use Rattle.std.specs.Char.{is_ascii_digit, is_ascii_alphabetic}
use Rattle.std.specs.Str.Parse.{digits_value}
use Rattle.std.specs.List.{prefix_len}
use Rattle.std.specs.Str.{bytes_eq}
use Rattle.script.specs.declared.token.Mark.TheVariants.{TypeWord, PropWord, KindWord, SortWord, FunWord, PiWord, ForallWord, SigmaWord, ExistsWord, LetWord, InWord, FstWord, SndWord, InlWord, InrWord, MatchWord, WithWord, EndWord, Arrow, Maps, Becomes, Colon, Opens, Closes, OpensBrace, ClosesBrace, Comma, Plus, Times, Bar}
use Rattle.script.specs.declared.token.FirstWord.TheVariants.{DefWord, TheoremWord, LemmaWord, AxiomWord, ConstantWord, CheckWord, EvalWord}
use Rattle.script.specs.declared.token.Kind.{Kind}
use Rattle.script.specs.declared.token.Kind.TheVariants.{Name, Number, Fixed, First, NoToken}
use Rattle.script.specs.declared.token.Piece.{Piece}

-- the reserved words, in four groups
abbrev pub sort_words : List (List ℕ × Kind)
sort_words =
    (codes "Type", Fixed TypeWord) ∷ (codes "Prop", Fixed PropWord) ∷ (codes "Kind", Fixed KindWord)
    ∷ (codes "Sort", Fixed SortWord) ∷ []

abbrev pub binder_words : List (List ℕ × Kind)
binder_words =
    (codes "fun", Fixed FunWord) ∷ (codes "Pi", Fixed PiWord) ∷ (codes "forall", Fixed ForallWord)
    ∷ (codes "Sigma", Fixed SigmaWord) ∷ (codes "exists", Fixed ExistsWord) ∷ (codes "let", Fixed LetWord)
    ∷ (codes "in", Fixed InWord) ∷ []

abbrev pub part_words : List (List ℕ × Kind)
part_words =
    (codes "fst", Fixed FstWord) ∷ (codes "snd", Fixed SndWord) ∷ (codes "inl", Fixed InlWord)
    ∷ (codes "inr", Fixed InrWord) ∷ (codes "match", Fixed MatchWord) ∷ (codes "with", Fixed WithWord)
    ∷ (codes "end", Fixed EndWord) ∷ []

abbrev pub first_words : List (List ℕ × Kind)
first_words =
    (codes "def", First DefWord) ∷ (codes "theorem", First TheoremWord) ∷ (codes "lemma", First LemmaWord)
    ∷ (codes "axiom", First AxiomWord) ∷ (codes "constant", First ConstantWord) ∷ (codes "check", First CheckWord)
    ∷ (codes "eval", First EvalWord) ∷ []

-- the symbols, the longer before the shorter that it begins with
abbrev pub joining_symbols : List (List ℕ × Kind)
joining_symbols =
    (codes "->", Fixed Arrow) ∷ (codes "=>", Fixed Maps) ∷ (codes ":=", Fixed Becomes) ∷ (codes ":", Fixed Colon)
    ∷ (codes "/\\", Fixed Times) ∷ (codes "\\/", Fixed Plus) ∷ []

abbrev pub single_symbols : List (List ℕ × Kind)
single_symbols =
    (codes "(", Fixed Opens) ∷ (codes ")", Fixed Closes) ∷ (codes "{", Fixed OpensBrace) ∷ (codes "}", Fixed ClosesBrace)
    ∷ (codes ",", Fixed Comma) ∷ (codes "+", Fixed Plus) ∷ (codes "*", Fixed Times) ∷ (codes "|", Fixed Bar) ∷ []

-- classes of bytes
abbrev pub letter : ℕ → Bool
letter b = is_ascii_alphabetic b || b == 95

abbrev pub word_byte : ℕ → Bool
word_byte b = letter b || (is_ascii_digit b || b == 39)

abbrev pub blank : ℕ → Bool
blank b = b == 32 || (b == 9 || (b == 13 || b == 10))

abbrev pub in_line : ℕ → Bool
in_line b = not (b == 10)

-- what a word is, if the table has it
abbrev pub spelt : List (List ℕ × Kind) → List ℕ → Option Kind
spelt [] w = None
spelt (x ∷ xs) w = cond (bytes_eq x.0 w) (Some x.1) (spelt xs w)

abbrev pub reserved : List ℕ → Option Kind
reserved w = option_or (spelt sort_words w) (option_or (spelt binder_words w) (option_or (spelt part_words w) (spelt first_words w)))

-- a word that is not reserved is a name of at most 64 bytes, but for `_`
abbrev pub name_kind : List ℕ → Kind
name_kind w = cond (nat_le (length w) 64 && not (bytes_eq w (codes "_"))) Name NoToken

abbrev pub word_kind : List ℕ → Kind
word_kind w = unwrap_or (reserved w) (name_kind w)

-- digits are a number to 65,535, with no needless zero in front
abbrev pub number_kind : List ℕ → Kind
number_kind [] = NoToken
number_kind (b ∷ []) = Number (digits_value 10 (b ∷ []))
number_kind (b ∷ c ∷ bs) =
    cond (not (b == 48) && nat_le (digits_value 10 (b ∷ c ∷ bs)) 65535) (Number (digits_value 10 (b ∷ c ∷ bs))) NoToken

-- the bytes begin with these
abbrev pub begins_with : List ℕ → List ℕ → Bool
begins_with [] bs = true
begins_with (x ∷ xs) [] = false
begins_with (x ∷ xs) (b ∷ bs) = x == b && begins_with xs bs

abbrev pub token : Kind → ℕ → Piece
token k n = record { kind = Some k; len = n }

abbrev pub gap : ℕ → Piece
gap n = record { kind = None; len = n }

-- a word or a number takes every byte that could go on with it, and is judged then
abbrev pub word_piece : List ℕ → Piece
word_piece bs = token (word_kind (take (prefix_len word_byte bs) bs)) (prefix_len word_byte bs)

abbrev pub number_piece : List ℕ → Piece
number_piece bs = token (number_kind (take (prefix_len is_ascii_digit bs) bs)) (prefix_len is_ascii_digit bs)

-- the first symbol of the table that the bytes begin with
abbrev pub symbol : List (List ℕ × Kind) → List ℕ → Option Piece
symbol [] bs = None
symbol (x ∷ xs) bs = cond (begins_with x.0 bs) (Some (token x.1 (length x.0))) (symbol xs bs)

-- a symbol, or one byte that is no token
abbrev pub symbol_piece : List ℕ → Piece
symbol_piece bs = unwrap_or (option_or (symbol joining_symbols bs) (symbol single_symbols bs)) (token NoToken 1)

unfoldable pub token_piece : ℕ → List ℕ → Piece
token_piece b bs =
    cond (letter b) (word_piece (b ∷ bs)) (cond (is_ascii_digit b) (number_piece (b ∷ bs)) (symbol_piece (b ∷ bs)))

-- what begins with the byte b: at a line's start a comment, to the line's end; else a blank or a lexeme
abbrev pub piece : Bool → ℕ → List ℕ → Piece
piece fresh b bs =
    cond (fresh && begins_with (codes "--") (b ∷ bs)) (gap (prefix_len in_line (b ∷ bs)))
    (cond (blank b) (gap 1) (token_piece b bs))

abbrev pub next_piece : Bool → List ℕ → Option Piece
next_piece fresh [] = None
next_piece fresh (b ∷ bs) = Some (piece fresh b bs)
