use Rattle.std.proofs.Common.{rules}
use Rattle.script.proofs.Pieces.{number_leads}
use Rattle.script.proofs.lex.number_piece.Goals as goal

pub returns : goal.returns
returns c = number_leads c.args.rest.now c.number.result (search rules) (search rules)
