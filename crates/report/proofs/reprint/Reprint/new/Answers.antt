use Rattle.std.proofs.Common.{refl}
use Rattle.report.proofs.reprint.Reprint.new.Goals as goal

pub returns : goal.returns
returns c = record {
  ready = record { cells = c.in_ok-cleared.ensures; page = c.in_ok-blank.ensures };
  script = refl;
  entries = c.new.ensures.items;
}
