use Rattle.std.proofs.Common.{arith}
use Rattle.std.proofs.lemmas.Grind.{common_steps}
use Rattle.counter_directory.proofs.Moves.{reserves_expired}
use Rattle.counter_directory.proofs.cell_pool.CellPool.reserve_expired.Goals as goal

pub invariant_of-self : goal.invariant_of-self
invariant_of-self c =
    let s = c.args.self.now in
    record {
      cells_lawful = reserves_expired _ _ _ _ c.in-Some.cell _ _ s.expired.items _ _ s.reserved.items _ c.in-Some.ensures.items c.push_reserved.ensures.items s.cells_lawful;
      lawful = s.lawful;
      four = s.four;
      next_claim_is = grind (arith, common_steps);
      few = grind (arith, common_steps);
      room = (omega (arith, s.room.0, c.in-Some.ensures.capacity), s.room.1, omega (arith, s.room.2, c.push_reserved.ensures.capacity), s.room.3);
      windows = s.windows;
      sizes = s.sizes;
    }
