use Rattle.std.proofs.Common.{◌∙◌, arith}
use Rattle.term.proofs.Stores.{settles}
use Rattle.term.proofs.arena.Arena.store.Goals as goal

pub invariant_of-self : goal.invariant_of-self
invariant_of-self c =
    let d = c.copy_value.new.self in
    let z = c.close.ensures in
    let s = settles c.args.kind c.args.value c.len.ensures c.requires.mark c.requires.known c.requires.kind c.requires.value c.in_ok-kind.ensures c.in_ok-value.ensures z.items in
    record { sound = s.placed.sound; room = omega (arith, d.room, z.len); held = omega (arith, d.held, z.capacity); few = d.few }

pub returns : goal.returns
returns c =
    let s = settles c.args.kind c.args.value c.len.ensures c.requires.mark c.requires.known c.requires.kind c.requires.value c.in_ok-kind.ensures c.in_ok-value.ensures c.close.ensures.items in
    let p = s.placed in
    let ok = c.close.new.pool.ok.0 in
    record {
      limit = c.in_ok-value.ensures.kept.limit ∙ c.in_ok-kind.ensures.kept.limit;
      items = s.items;
      len = omega (arith, p.len, ok);
      left = s.cost;
      low = omega (arith, p.low, ok);
      kind = p.kind;
      low_value = omega (arith, p.low_value, ok);
      value = p.value;
      trees = p.trees;
      chains = p.chains;
    }
