-- What each sort system answers.
use Rattle.std.specs.Prelude.{ℕ, ◌+◌, max, cond, ◌&&◌, Some, None, Option, ◌==◌, nat_le, nat_lt}
use Rattle.rules.specs.Rules.{Question, above, join}

-- above 0 is 1; the join of s and t, both at most 1, is t; else none
abbrev pub lcplus : Question → Option ℕ
lcplus (above s) = cond (s == 0) (Some 1) None
lcplus (join s t) = cond (nat_le s 1 && nat_le t 1) (Some t) None

-- above n is n + 1, but none above 65,535; the join is the larger
abbrev pub ladder : Question → Option ℕ
ladder (above s) = cond (nat_lt s 65535) (Some (s + 1)) None
ladder (join s t) = Some (max s t)

-- as the system inside, but none to the join of a and b
abbrev pub fence : ℕ → ℕ → (Question → Option ℕ) → Question → Option ℕ
fence a b S (above s) = S (above s)
fence a b S (join s t) = cond (s == a && t == b) None (S (join s t))
