use Rattle.std.proofs.Common.{refl, arith}
use Rattle.term.proofs.Trees.{pushed}
use Rattle.term.proofs.arena.Arena.push.Goals as goal

pub returns : goal.returns
returns c =
    let p = pushed c.push_reserved.ensures.items c.args.self.now.pool.ok.0 c.args.self.now.sound c.requires.fits in
    record {
      kept = record { long = omega arith; limit = refl; trees = p.kept; chains = p.chains };
      at = c.len-id.ensures;
      len = c.push_reserved.ensures.len;
      left = refl;
      items = c.push_reserved.ensures.items;
      made = rw c.len-id.ensures p.made;
      linked = rw c.len-id.ensures p.linked;
    }
