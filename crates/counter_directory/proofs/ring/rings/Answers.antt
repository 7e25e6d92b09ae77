use Rattle.std.proofs.Common.{refl, arith}
use Rattle.counter_directory.proofs.Starting.{empty_more, roomy_more}
use Rattle.counter_directory.proofs.ring.rings.Goals as goal

pub loop-unit-preserved : goal.loop-unit-preserved
loop-unit-preserved c =
    let i = c.loop-unit.invariant in
    record {
      len = omega (arith, c.push_reserved.ensures.len, i.len);
      room = omega (arith, c.push_reserved.ensures.capacity, i.room);
      empty = empty_more c.loop-unit.rings.items _ _ c.push_reserved.ensures.items c.in_ok-cells.ensures.items refl i.empty;
      roomy = roomy_more c.args.cells c.loop-unit.rings.items _ _ c.push_reserved.ensures.items (omega (arith, c.in_ok-cells.ensures.exact)) i.roomy;
    }
