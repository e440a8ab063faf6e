use Rattle.std.proofs.Common.{ap, rules}
use Rattle.script.specs.Tokens.{in_line, gap}
use Rattle.script.proofs.Pieces.{leading}
use Rattle.script.proofs.lex.comment.Goals as goal

pub returns : goal.returns
returns c = ap gap (leading in_line c.args.rest.now (search rules))
