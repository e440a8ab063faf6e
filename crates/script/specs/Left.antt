-- What an iterator over statements still gives.
use Rattle.std.specs.Prelude.{List}
use Rattle.script.specs.declared.statement.Statement.{Statement}
use Rattle.script.specs.declared.reader.statements.Statements.{Statements}
use Rattle.script.specs.Statements.{statements_from}
use Rattle.script.specs.View.{script}

abbrev pub left : Statements → List Statement
left s = statements_from (script s.reader) s.reader.at
