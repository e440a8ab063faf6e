-- How many binders stand over the last part of each form. No binder stands over an earlier part of
-- a form with two parts; a match has one binder over each arm and none over what it looks at.
use Rattle.std.specs.Prelude.{ℕ}
use Rattle.term.specs.declared.node.Unary.{Unary}
use Rattle.term.specs.declared.node.Unary.TheVariants.{Fun, Fst, Snd, Inl, Inr}
use Rattle.term.specs.declared.node.Binary.{Binary}
use Rattle.term.specs.declared.node.Binary.TheVariants.{Pi, Sigma, Exists, Typed, App, Pair, Pack, Unpack, Sum, Ascribe, Let}

abbrev pub binds : Unary → ℕ
binds Fun = 1
binds Fst = 0
binds Snd = 0
binds Inl = 0
binds Inr = 0

abbrev pub binds_last : Binary → ℕ
binds_last Pi = 1
binds_last Sigma = 1
binds_last Exists = 1
binds_last Typed = 1
binds_last App = 0
binds_last Pair = 0
binds_last Pack = 0
binds_last Unpack = 2
binds_last Sum = 0
binds_last Ascribe = 0
binds_last Let = 1

-- forms are compared by their numbers
abbrev pub code : Unary → ℕ
code Fun = 0
code Fst = 1
code Snd = 2
code Inl = 3
code Inr = 4

abbrev pub code_two : Binary → ℕ
code_two Pi = 0
code_two Sigma = 1
code_two Exists = 2
code_two Typed = 3
code_two App = 4
code_two Pair = 5
code_two Pack = 6
code_two Unpack = 7
code_two Sum = 8
code_two Ascribe = 9
code_two Let = 10
