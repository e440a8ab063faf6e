use Rattle.std.proofs.Common.{◌∙◌}
use Rattle.script.proofs.Fronts.{same_front, short_front}
use Rattle.script.proofs.spell.starts.Goals as goal

pub returns-then-bytes-rest : goal.returns-then-bytes-rest
returns-then-bytes-rest c = c.eq.ensures ∙ same_front c.args.bytes.now c.args.rest.now

pub returns-else-bytes-rest : goal.returns-else-bytes-rest
returns-else-bytes-rest c = short_front c.args.bytes.now c.args.rest.now c.if-bytes-rest.false
