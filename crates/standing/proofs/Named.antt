-- The statement that comes next by its words: its kind, the new name that it enters, and low numbers.
use Rattle.std.proofs.Common.{◌≡◌, ℕ, ◌≤◌, Bool, true, false, ◌&&◌, List, [], ◌∷◌, get_or, take, Some, None, codes, Option, sym, refl, ap, ◌∙◌, arith}
use Rattle.std.specs.Char.{is_ascii_alphabetic, is_ascii_digit}
use Rattle.std.specs.List.{prefix_len, AllByRecursion}
use Rattle.std.specs.Option.{IfSome, option_or, unwrap_or}
use Rattle.std.proofs.lemmas.Bool.{both_ways, cond_both}
use Rattle.std.proofs.lemmas.Grind.{common_steps}
use Rattle.script.specs.declared.token.Kind.{Kind}
use Rattle.script.specs.declared.token.Kind.TheVariants.{Name, Number, Fixed, First, NoToken}
use Rattle.script.specs.declared.token.Piece.{Piece}
use Rattle.script.specs.Lexemes.{Lexeme}
use Rattle.script.specs.declared.statement.StatementKind.{StatementKind}
use Rattle.script.specs.declared.statement.Statement.{Statement}
use Rattle.script.specs.Parts.{lexemes_from}
use Rattle.script.specs.Statements.{statement_kind, runs, enters, head, entered, summary, start_of, summaries, statements_from}
use Rattle.script.specs.Tokens.{letter, word_byte, blank, begins_with, reserved, name_kind, word_kind, number_kind, symbol, token_piece, token, piece, joining_symbols, single_symbols}
use Rattle.script.specs.Walk.{until, from_next}
use Rattle.script.proofs.Runs.{runs_first}
use Rattle.script.proofs.Pieces.{leads}
use Rattle.term.specs.Term.{Term}
use Rattle.grammar.specs.Words.{Word, as_token, words}
use Rattle.grammar.specs.Grammar.{next_name, find_entry, past}
use Rattle.grammar.specs.Statements.{kind_of}
use Rattle.syntax.specs.Reads.{own, statement_words}
use Rattle.grammar.specs.Sentences.{Enters, Sentence}
use Rattle.grammar.specs.Sentences.Sentence.{a_def, a_typed_def, an_axiom, a_check, an_eval}
use Rattle.standing.specs.Standing.{Low, AllLow, LowNumbers, KindsAgree, NewlyNamed, NamedStatements}
use Rattle.grammar.proofs.Good.{AllRows, reserved_by, all_lexemes, NamedGood, names_good}
use Rattle.grammar.proofs.Sentences.{read_sentences}

all_until : (P : Lexeme → Type 0) (ls : List Lexeme) → AllByRecursion P ls → AllByRecursion P (until ls)
unfolding until
all_until P [] h = tt
all_until P (l ∷ ls) h = grind (arith, all_until P ls h.1)

-- the first statement by the lexemes from a place on
abbrev Summed : List ℕ → Statement → List Lexeme → Type 0
Summed s st [] = ⊥
Summed s st (l ∷ ls) = summary s (record { first = l; rest = until ls }) (start_of s (runs (from_next ls))) ≡ st

summed_by : (s : List ℕ) (st : Statement) (ls : List Lexeme) → head (summaries s (runs ls)) ≡ Some st → Summed s st ls
summed_by s st [] e = grind arith
summed_by s st (l ∷ ls) e =
    let is : Some (summary s (record { first = l; rest = until ls }) (start_of s (runs (from_next ls)))) ≡ Some st =
    sym (ap (λ rs. head (summaries s rs)) (runs_first l ls)) ∙ e in
    cc

summed : (s : List ℕ) (at : ℕ) (st : Statement) → head (statements_from s at) ≡ Some st → Summed s st (lexemes_from s at)
unfolding statements_from
summed s at st e = summed_by s st (lexemes_from s at) e

kind_by : (s : List ℕ) (st : Statement) (ls : List Lexeme) → Summed s st ls → kind_of (words s (own ls)) ≡ st.kind
kind_by s st ls h = grind arith

pub kinds_agree : KindsAgree
kinds_agree s at st e = kind_by s st (lexemes_from s at) (summed s at st e)

-- a sentence of a kind that enters begins with a name
record Begins (entries : List (List ℕ)) (a : List Word) : Type 0 where
  word : List ℕ
  next : next_name a ≡ Some word
  letter : is_ascii_alphabetic (get_or word 0 0) ≡ true
  new : find_entry word entries ≡ None

begun : (entries : List (List ℕ)) {a b : List Word} → Enters entries a b → Begins entries a
begun entries n = grind arith

begins_by : (entries : List (List ℕ)) (end : ℕ) {k : StatementKind} {a : List Word} {t : Term} → Sentence entries end k a t → enters (Some k) ≡ true → Begins entries a
begins_by entries end (a_def n i p) e = begun entries n
begins_by entries end (a_typed_def n i p j q) e = begun entries n
begins_by entries end (an_axiom n i p) e = begun entries n
begins_by entries end (a_check p) e = absurd (both_ways false refl e)
begins_by entries end (an_eval p) e = absurd (both_ways false refl e)

named_first : (s : List ℕ) (entries : List (List ℕ)) (st : Statement) (o : Option StatementKind) (ms : List Lexeme) → st.name ≡ entered s o (head ms) → enters o ≡ true → AllByRecursion (NamedGood s) ms → Begins entries (words s ms) → NewlyNamed s entries st
named_first s entries st o ms e i h b = grind (arith, common_steps)

named_by : (s : List ℕ) (entries : List (List ℕ)) (st : Statement) (ls : List Lexeme) → Summed s st ls → enters st.kind ≡ true → AllByRecursion (NamedGood s) ls → Begins entries (past (words s (own ls))) → NewlyNamed s entries st
named_by s entries st [] e i h b = absurd e
named_by s entries st (l ∷ ls) e i h b =
    named_first s entries st (statement_kind l.kind) (until ls) (sym (ap (λ (x : Statement). x.name) e))
    (ap (λ (x : Statement). enters x.kind) e ∙ i) (all_until (NamedGood s) ls h.1) b

pub named_statements : NamedStatements
named_statements s at st entries k t us e f i d =
    let r = read_sentences entries st.end (statement_words s at) us t d in
    let same : r.kind ≡ k = let q = sym r.begins ∙ kinds_agree s at st e ∙ f in cc in
    named_by s entries st (lexemes_from s at) (summed s at st e) (ap enters f ∙ i) (names_good s at)
    (begins_by entries st.end r.sentence (ap (λ x. enters (Some x)) same ∙ i))

-- a kind that is a number is at most 65,535
abbrev LowKind : Kind → Type 0
LowKind Name = Unit {0}
LowKind (Number n) = n ≤ 65535
LowKind (Fixed m) = Unit {0}
LowKind (First w) = Unit {0}
LowKind NoToken = Unit {0}

abbrev LowIf : Option Kind → Type 0
LowIf o = IfSome o LowKind

reserved_low : (w : List ℕ) → LowIf (reserved w)
reserved_low w =
    reserved_by LowKind w (tt, (tt, (tt, (tt, tt)))) (tt, (tt, (tt, (tt, (tt, (tt, (tt, tt)))))))
    (tt, (tt, (tt, (tt, (tt, (tt, (tt, tt))))))) (tt, (tt, (tt, (tt, (tt, (tt, (tt, tt)))))))

or_kind : (o : Option Kind) (k : Kind) → LowIf o → LowKind k → LowKind (unwrap_or o k)
or_kind None k h i = i
or_kind (Some x) k h i = h

word_low : (w : List ℕ) → LowKind (word_kind w)
word_low w = or_kind (reserved w) (name_kind w) (reserved_low w) (cond_both _ Name NoToken LowKind (λ e. tt) (λ e. tt))

number_low : (w : List ℕ) → AllByRecursion (λ b. is_ascii_digit b ≡ true) w → LowKind (number_kind w)
number_low w h = grind (arith, common_steps)

-- a symbol is no number
abbrev LowPiece : Option Piece → Type 0
LowPiece None = Unit {0}
LowPiece (Some p) = LowIf p.kind

symbol_low : (rows : List (List ℕ × Kind)) (bs : List ℕ) → AllRows LowKind rows → LowPiece (symbol rows bs)
symbol_low [] bs h = tt
symbol_low (r ∷ rows) bs h = grind (arith, symbol_low rows bs h.1)

or_symbol : (x y : Option Piece) → LowPiece x → LowPiece y → LowIf (unwrap_or (option_or x y) (token NoToken 1)).kind
or_symbol None None h k = tt
or_symbol None (Some y) h k = k
or_symbol (Some x) y h k = h

token_low : (b : ℕ) (bs : List ℕ) → LowIf (token_piece b bs).kind
unfolding token_piece
token_low b bs =
    cond_both (letter b) _ _ (λ (p : Piece). LowIf p.kind)
    (λ e. word_low (take (prefix_len word_byte (b ∷ bs)) (b ∷ bs)))
    (λ e. cond_both (is_ascii_digit b) _ _ (λ (p : Piece). LowIf p.kind)
    (λ e. number_low (take (prefix_len is_ascii_digit (b ∷ bs)) (b ∷ bs)) (leads is_ascii_digit (b ∷ bs)))
    (λ e. or_symbol (symbol joining_symbols (b ∷ bs)) (symbol single_symbols (b ∷ bs))
    (symbol_low joining_symbols (b ∷ bs) (tt, (tt, (tt, (tt, (tt, (tt, tt)))))))
    (symbol_low single_symbols (b ∷ bs) (tt, (tt, (tt, (tt, (tt, (tt, (tt, (tt, tt)))))))))))

piece_low : (f : Bool) (b : ℕ) (bs : List ℕ) → LowIf (piece f b bs).kind
piece_low f b bs =
    cond_both (f && begins_with (codes "--") (b ∷ bs)) _ _ (λ (p : Piece). LowIf p.kind) (λ e. tt)
    (λ e. cond_both (blank b) _ _ (λ (p : Piece). LowIf p.kind) (λ e. tt) (λ e. token_low b bs))

abbrev LowIn : Lexeme → Type 0
LowIn l = LowKind l.kind

lexemes_low : (s : List ℕ) (at : ℕ) → AllByRecursion LowIn (lexemes_from s at)
lexemes_low s at = all_lexemes LowIn s (λ f b at bs e. piece_low f b bs) at

token_of : (k : Kind) (x : List ℕ) → LowKind k → Low (as_token k x)
token_of Name x h = tt
token_of (Number n) x h = h
token_of (Fixed m) x h = tt
token_of (First w) x h = tt
token_of NoToken x h = tt

words_low : (s : List ℕ) (ls : List Lexeme) → AllByRecursion LowIn ls → AllLow (words s ls)
words_low s [] h = tt
words_low s (l ∷ ls) h = grind (arith, words_low s ls h.1)

own_low : (ls : List Lexeme) → AllByRecursion LowIn ls → AllByRecursion LowIn (own ls)
own_low [] h = tt
own_low (l ∷ ls) h = (h.0, all_until LowIn ls h.1)

pub low_numbers : LowNumbers
low_numbers s at = (words_low s _ (lexemes_low s at), words_low s _ (own_low (lexemes_from s at) (lexemes_low s at)))
