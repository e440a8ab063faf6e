use Rattle.std.proofs.Common.{refl, arith}
use Rattle.term.proofs.Trees.{taken}
use Rattle.term.proofs.arena.Arena.rewind.Goals as goal

pub returns : goal.returns
returns c =
    let t = taken c.args.mark c.truncate.ensures.items c.args.self.now.sound in
    let l = c.truncate.new.self.ok.0 in
    record {
      kept = record { long = omega arith; limit = refl; trees = λ k h. t.kept k (omega arith); chains = λ o h. t.chains o (omega arith) };
      len = omega arith;
      left = refl;
    }
