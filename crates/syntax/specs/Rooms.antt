-- What a parser has room for.
use Rattle.std.specs.Prelude.{◌+◌, ◌*◌, ◌≤◌, length, vec_len}
use Rattle.term.specs.declared.arena.Arena.{Arena}
use Rattle.term.specs.State.{cells_in}
use Rattle.syntax.specs.declared.ahead.Ahead.{Ahead}
use Rattle.syntax.specs.declared.scope.Scope.{Scope}
use Rattle.syntax.specs.Look.{left}

-- there is room for two cells for each word that is left, and for a binder
pub record Room (r : Ahead) (s : Scope) (a : Arena) : Type 0 where
  pub cells : cells_in a + a.left + 2 * length (left r) ≤ a.limit
  pub names : vec_len s.names + length (left r) ≤ 4000
