-- The refusals that the lexemes of a statement alone decide.
use Rattle.std.specs.Prelude.{ℕ, cond, Some, None, Ok, Err, Option, Result, nat_lt}
use Rattle.script.specs.declared.statement.Statement.{Statement}
use Rattle.script.specs.declared.statement.ScriptFault.{ScriptFault}
use Rattle.script.specs.declared.statement.ScriptFault.TheVariants.{NoToken, TooManyTokens}

abbrev pub fault_number : ScriptFault → ℕ
fault_number (NoToken at) = 1
fault_number (TooManyTokens at) = 2

abbrev pub fault_place : ScriptFault → ℕ
fault_place (NoToken at) = at
fault_place (TooManyTokens at) = at

-- a lexeme that is no token is refused at its place, else more than 4,000 tokens at the statement's
abbrev pub by_wrong : Option ℕ → Statement → Result (Unit {0}) ScriptFault
by_wrong (Some at) st = Err (NoToken at)
by_wrong None st = cond (nat_lt 4000 st.tokens) (Err (TooManyTokens st.at)) (Ok tt)

abbrev pub token_check : Statement → Result (Unit {0}) ScriptFault
token_check st = by_wrong st.wrong st
