use Rattle.normal.proofs.Views.{listed}
use Rattle.normal.proofs.site.Site.entry.Goals as goal

pub returns : goal.returns
returns c = rw c.copied.ensures (listed c.args.self.now.entries.now c.args.j c.get.result c.get.ensures.lookup.1 c.get.ensures.lookup.3)
