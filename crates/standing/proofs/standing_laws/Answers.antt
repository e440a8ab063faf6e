use Rattle.standing.proofs.Read.{read_closed, read_bounded}
use Rattle.standing.proofs.Named.{low_numbers, kinds_agree, named_statements}
use Rattle.standing.proofs.standing_laws.Goals as goal

pub returns : goal.returns
returns c = record { closed = read_closed; bounded = read_bounded; low = low_numbers; kinds = kinds_agree; named = named_statements }
