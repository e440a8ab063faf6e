-- Samples that compute.
use Rattle.std.proofs.Common.{◌≡◌, ℕ, List, [], ◌∷◌, map, length, Some, None, codes, Option, refl}
use Rattle.std.specs.Fmt.{digits}
use Rattle.script.specs.declared.token.Mark.TheVariants.{FunWord, Arrow, Plus, Times, Colon, Becomes, Maps}
use Rattle.script.specs.declared.token.FirstWord.TheVariants.{DefWord}
use Rattle.script.specs.declared.statement.StatementKind.{StatementKind}
use Rattle.script.specs.Tokens.{token_piece}
use Rattle.script.specs.Parts.{parts_from, lexemes_from}
use Rattle.term.specs.declared.node.Unary.TheVariants.{Fun}
use Rattle.term.specs.declared.node.Binary.TheVariants.{Pi, Sigma, Typed, App, Sum, Ascribe, Let}
use Rattle.term.specs.Term.{sort, local, entry, unary, binary, choice}
use Rattle.grammar.specs.Words.{Token, name, number, mark, first, no_token, Word, words}
use Rattle.grammar.specs.Grammar.{Reading, tree, refusal, expr, past, here}
use Rattle.grammar.specs.Reader.{follow, reading}
use Rattle.grammar.specs.Statements.{kind_of, statement}
use Rattle.grammar.specs.Text.{text}

abbrev all_words : List ℕ → List Word
all_words s = words s (lexemes_from s 0)

abbrev tokens : List ℕ → List Token
tokens s = map (λ (w : Word). w.token) (all_words s)

words_and_comment : tokens (codes "-- no\ndef x1 := fun y' => _ 65535 65536 007 0\n--x") ≡ first DefWord ∷ name (codes "x1") ∷ mark Becomes ∷ mark FunWord ∷ name (codes "y'") ∷ mark Maps ∷ no_token ∷ number 65535 ∷ no_token ∷ no_token ∷ number 0 ∷ []
unfolding lexemes_from parts_from token_piece
words_and_comment = refl

longest : tokens (codes "a->b /\\ c \\/ :=: -- -") ≡ name (codes "a") ∷ mark Arrow ∷ name (codes "b") ∷ mark Times ∷ name (codes "c") ∷ mark Plus ∷ mark Becomes ∷ mark Colon ∷ no_token ∷ no_token ∷ no_token ∷ []
unfolding lexemes_from parts_from token_piece
longest = refl

abbrev read_text : List (List ℕ) → List ℕ → Option Reading
read_text es s = reading es (length s) 200 expr [] (all_words s)

arrows : read_text (codes "A" ∷ []) (codes "fun (x : A) => A -> A * x + A") ≡ Some (tree (binary 0 Typed (entry 9 0) (binary 15 Pi (entry 15 0) (binary 20 Sum (binary 20 Sigma (entry 20 0) (local 24 2)) (entry 28 0)))) [])
unfolding lexemes_from parts_from token_piece
arrows = refl

unknown_name : read_text (codes "A" ∷ []) (codes "A (A b)") ≡ Some (refusal 4 5)
unfolding lexemes_from parts_from token_piece
unknown_name = refl

misfits : read_text (codes "A" ∷ []) (codes "(A , A A") ≡ Some (refusal 3 8)
unfolding lexemes_from parts_from token_piece
misfits = refl

ascribed : read_text (codes "A" ∷ []) (codes "let x : A := A in x x x") ≡ Some (tree (binary 0 Let (binary 8 Ascribe (entry 13 0) (entry 8 0)) (binary 18 App (binary 18 App (local 18 0) (local 20 0)) (local 22 0))) [])
unfolding lexemes_from parts_from token_piece
ascribed = refl

as_printed : text (codes "A" ∷ []) 0 (binary 0 Pi (entry 0 0) (entry 0 0)) ≡ codes "(Pi (_0 : A), A)"
unfolding digits
as_printed = refl

more_printed : text (codes "A" ∷ []) 0 (unary 0 Fun (unary 0 Fun (choice 0 (local 0 1) (local 0 0) (sort 0 17)))) ≡ codes "(fun _0 => (fun _1 => (match _0 with | inl _2 => _2 | inr _2 => Sort 17 end)))"
unfolding digits
more_printed = refl

abbrev by_kind : List (List ℕ) → ℕ → List Word → Option StatementKind → Option Reading
by_kind es end ws None = Some (refusal 3 (here end ws))
by_kind es end ws (Some k) = follow es end (reading es end 200) (statement k es (here end (past ws))) (past ws)

abbrev read_statement : List (List ℕ) → List ℕ → Option Reading
read_statement es s = by_kind es (length s) (all_words s) (kind_of (all_words s))

a_def : read_statement (codes "A" ∷ []) (codes "def id : A -> A := fun x => x\n") ≡ Some (tree (binary 9 Ascribe (unary 19 Fun (local 28 0)) (binary 9 Pi (entry 9 0) (entry 14 0))) [])
unfolding lexemes_from parts_from token_piece
a_def = refl

entered : read_statement (codes "A" ∷ []) (codes "axiom A : B") ≡ Some (refusal 5 6)
unfolding lexemes_from parts_from token_piece
entered = refl

no_letter : read_statement (codes "A" ∷ []) (codes "axiom _a : B") ≡ Some (refusal 3 6)
unfolding lexemes_from parts_from token_piece
no_letter = refl

overlong : read_statement (codes "A" ∷ []) (codes "check A )") ≡ Some (refusal 3 8)
unfolding lexemes_from parts_from token_piece
overlong = refl

cut_short : read_statement (codes "A" ∷ []) (codes "def x : A ") ≡ Some (refusal 3 10)
unfolding lexemes_from parts_from token_piece
cut_short = refl
