-- What is told of a script, statement by statement.
use Rattle.std.specs.Prelude.{◌≡◌, ℕ, ◌+◌, List, [], ◌∷◌, ◌++◌, codes}
use Rattle.script.specs.declared.statement.Statement.{Statement}
use Rattle.report.specs.Lines.{Appended, line}

-- of the statement of this number a text was told, and put after what there was
pub record TellsOne {T : Type 0} (tells : T → ℕ → Statement → List ℕ → T → Type 0) (teller : T) (n : ℕ) (st : Statement) (was is : List ℕ) (after : T) : Type 0 where
  pub text : List ℕ
  pub told : tells teller n st text after
  pub put : Appended was text is

-- of statements that are numbered from n on the texts are told, one after another
abbrev pub TellsAll : {T : Type 0} → (T → ℕ → Statement → List ℕ → T → Type 0) → T → ℕ → List Statement → List ℕ → Type 0
TellsAll tells teller n [] text = text ≡ []
TellsAll {T} tells teller n (st ∷ sts) text =
    (here rest : List ℕ) × (after : T) × tells teller n st here after × TellsAll tells after (n + 1) sts rest × (text ≡ here ++ rest)

-- the one line of a script of over 1,000,000 bytes
abbrev pub too_long : List ℕ
too_long = line (codes "answer=") (codes "13")

abbrev pub IsTooLong : List ℕ → Type 0
IsTooLong text = text ≡ too_long
