use Rattle.std.proofs.Common.{rules}
use Rattle.script.proofs.Pieces.{word_leads}
use Rattle.script.proofs.lex.word_piece.Goals as goal

pub returns : goal.returns
returns c = word_leads c.args.rest.now c.word.result (search rules) (search rules)
