-- What the scanner's inner functions answer, in the terms of the tokens.
use Rattle.std.specs.Prelude.{ℕ, ◌+◌, ◌-◌, ◌*◌, cond, ◌&&◌, List, [], ◌∷◌, Some, None, Option, ◌==◌, nat_le}
use Rattle.std.specs.Char.{is_ascii_digit}
use Rattle.script.specs.declared.token.Kind.{Kind}
use Rattle.script.specs.declared.token.Kind.TheVariants.{Number, NoToken}
use Rattle.script.specs.declared.token.Piece.{Piece}
use Rattle.script.specs.Tokens.{token, token_piece}

-- the value of digits after those of value n, or none past 65,535
abbrev pub value_to : ℕ → List ℕ → Option ℕ
value_to n [] = Some n
value_to n (b ∷ bs) = cond (is_ascii_digit b && nat_le (n * 10 + (b - 48)) 65535) (value_to (n * 10 + (b - 48)) bs) None

abbrev pub number_in : Option ℕ → Kind
number_in None = NoToken
number_in (Some n) = Number n

abbrev pub judged_number : List ℕ → Kind
judged_number [] = NoToken
judged_number (b ∷ []) = number_in (value_to 0 (b ∷ []))
judged_number (b ∷ c ∷ bs) = cond (b == 48) NoToken (number_in (value_to 0 (b ∷ c ∷ bs)))

-- the lexeme that some bytes begin with
abbrev pub token_of : List ℕ → Piece
token_of [] = token NoToken 0
token_of (b ∷ bs) = token_piece b bs
