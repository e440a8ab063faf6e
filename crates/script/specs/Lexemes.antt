-- Pieces and lexemes at their places.
use Rattle.std.specs.Prelude.{Option}
use Rattle.script.specs.declared.token.Kind.{Kind}
use Rattle.script.specs.declared.token.Placed.{Placed}

-- a blank, a comment or a lexeme
abbrev pub Part : Type 0
Part = Placed (Option Kind)

-- a part that is no blank and no comment
abbrev pub Lexeme : Type 0
Lexeme = Placed Kind
