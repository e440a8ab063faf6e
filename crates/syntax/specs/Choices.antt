-- What the grammar tells apart by one mark: a table of marks, with what each stands for.
use Rattle.std.specs.Prelude.{ℕ, cond, List, [], ◌∷◌, Some, None, Option}
use Rattle.script.specs.declared.token.Mark.{Mark}
use Rattle.script.specs.declared.token.Mark.TheVariants.{TypeWord, PropWord, KindWord, FstWord, SndWord, InlWord, InrWord, PiWord, ForallWord, SigmaWord, ExistsWord}
use Rattle.term.specs.declared.node.Unary.{Unary}
use Rattle.term.specs.declared.node.Unary.TheVariants.{Fst, Snd, Inl, Inr}
use Rattle.term.specs.declared.node.Binary.{Binary}
use Rattle.term.specs.declared.node.Binary.TheVariants.{Pi, Sigma, Exists}
use Rattle.grammar.specs.Words.{Token, Word}
use Rattle.grammar.specs.Grammar.{is_token, Steps, next}

-- what the first row that a token is stands for
abbrev pub chosen : {V : Type 0} → List (Mark × V) → Token → Option V
chosen [] t = None
chosen (row ∷ rows) t = cond (is_token row.0 t) (Some row.1) (chosen rows t)

abbrev pub next_chosen : {V : Type 0} → List (Mark × V) → List Word → Option V
next_chosen rows [] = None
next_chosen rows (w ∷ ws) = chosen rows w.token

-- the steps that try the rows in their order
abbrev pub choosing : {V : Type 0} → List (Mark × V) → (V → Steps) → Steps → Steps
choosing [] f u = u
choosing (row ∷ rows) f u = next row.0 (f row.1) (choosing rows f u)

abbrev pub quantifiers : List (Mark × Binary)
quantifiers = (PiWord, Pi) ∷ (ForallWord, Pi) ∷ (SigmaWord, Sigma) ∷ (ExistsWord, Exists) ∷ []

abbrev pub heads : List (Mark × Unary)
heads = (FstWord, Fst) ∷ (SndWord, Snd) ∷ (InlWord, Inl) ∷ (InrWord, Inr) ∷ []

abbrev pub sorts : List (Mark × ℕ)
sorts = (TypeWord, 0) ∷ (PropWord, 0) ∷ (KindWord, 1) ∷ []
