-- What holds of every script.
use Rattle.std.specs.Prelude.{◌≡◌, ℕ, ◌+◌, ◌<◌, true, false, List, [], ◌∷◌, length, take, drop}
use Rattle.std.specs.List.{flat_map, AllByRecursion}
use Rattle.script.specs.Lexemes.{Part, Lexeme}
use Rattle.script.specs.Parts.{parts_from}
use Rattle.script.specs.Statements.{Run, all_of, first_word, runs}

-- each part begins where the one before it ended
abbrev pub Consecutive : ℕ → List Part → ℕ → Type 0
Consecutive from [] to = from ≡ to
Consecutive from (p ∷ ps) to = (p.at ≡ from) × (0 < p.len) × Consecutive (from + p.len) ps to

abbrev pub text : List ℕ → Part → List ℕ
text s p = take p.len (drop p.at s)

-- the lexemes of a script, the blanks and the comments, put together again, give it back
pub record Rejoins (s : List ℕ) : Type 0 where
  pub order : Consecutive 0 (parts_from s 0) (length s)
  pub whole : flat_map (text s) (parts_from s 0) ≡ s

abbrev pub tail : {X : Type 0} → List X → List X
tail [] = []
tail (x ∷ xs) = xs

-- the statements cut the lexemes into consecutive runs, each but perhaps the first beginning with
-- one of the seven words, and none with such a word further on
pub record Cuts (ls : List Lexeme) : Type 0 where
  pub whole : flat_map all_of (runs ls) ≡ ls
  pub first : AllByRecursion (λ (r : Run). first_word r.first ≡ true) (tail (runs ls))
  pub inside : AllByRecursion (λ (r : Run). AllByRecursion (λ l. first_word l ≡ false) r.rest) (runs ls)
