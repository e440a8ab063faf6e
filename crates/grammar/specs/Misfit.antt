-- Refusal 3 by the grammar itself: it lies at the first word with which the words up to it can begin
-- no statement.
use Rattle.std.specs.Prelude.{◌≡◌, ℕ, ◌^◌, ◌<◌, ◌≤◌, List, [], ◌∷◌, ◌++◌, length}
use Rattle.std.specs.List.{AllByRecursion}
use Rattle.term.specs.Term.{Term}
use Rattle.grammar.specs.Words.{Token, name, number, mark, first, no_token, Word}
use Rattle.grammar.specs.Grammar.{Name, here, tree, refusal}
use Rattle.grammar.specs.Statements.{States}
use Rattle.grammar.specs.Text.{GoodName}

-- a script can have this token
abbrev pub Writable : Token → Type 0
Writable (name x) = GoodName x
Writable (number n) = n ≤ 65535
Writable (mark m) = Unit {0}
Writable (first w) = Unit {0}
Writable no_token = ⊥

abbrev pub AllWritable : List Word → Type 0
AllWritable = AllByRecursion (λ (w : Word). Writable w.token)

-- with some words after them, that a script can have, they are read
pub record CanBegin (entries : List Name) (end : ℕ) (ws : List Word) : Type 0 where
  pub more : List Word
  pub term : Term
  pub writable : AllWritable more
  pub reads : States entries end (ws ++ more) (tree term [])

-- p is the place of the first word after some that can begin a statement, or the end; with that word
-- they are read before no words
pub record Misfit (entries : List Name) (end : ℕ) (ws : List Word) (p : ℕ) : Type 0 where
  pub before : List Word
  pub after : List Word
  pub whole : ws ≡ before ++ after
  pub place : p ≡ here end after
  pub can : CanBegin entries end before
  pub cannot : (w : Word) (rest : List Word) → after ≡ w ∷ rest
      → (more us : List Word) (t : Term) → States entries end (before ++ (w ∷ more)) (tree t us) → ⊥

abbrev pub Misfits : Type 0
Misfits =
    (entries : List Name) (end : ℕ) (ws : List Word) (p : ℕ)
    → length entries < 2 ^ 64 → States entries end ws (refusal 3 p) → Misfit entries end ws p
