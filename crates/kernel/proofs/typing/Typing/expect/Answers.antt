use Rattle.std.proofs.Common.{refl}
use Rattle.kernel.specs.Runs.{Expects}
use Rattle.kernel.proofs.Logic.{expected, parts_or}
use Rattle.kernel.proofs.typing.Typing.expect.Goals as goal

pub returns : goal.returns
returns g c =
    let a = c.args.arena.now in
    let found : Expects a c.args.self.now.site.place c.args.form c.args.id c.ok_or.result = rw c.ok_or.ensures.value (parts_or c.args.form a c.args.id c.parts.result c.parts.ensures.is c.parts.ensures.low c.refused.ensures) in
    record { is = found; leads = λ X es. expected c.args.form a c.args.id refl c.requires found }
