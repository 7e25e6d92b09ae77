use Rattle.std.proofs.Common.{◌<◌, arith}
use Rattle.std.specs.Prelude.{vec_len, vec_capacity}
use Rattle.counter_directory.specs.declared.cell_pool.CellPool.{CellPool}
use Rattle.counter_directory.proofs.Moves.{holds_expired}
use Rattle.counter_directory.proofs.Counting.{counted}
use Rattle.counter_directory.proofs.cell_pool.CellPool.hold_expired.Goals as goal

room_of : (s : CellPool) → 0 < vec_len s.expired → vec_len s.held < vec_capacity s.held
room_of s some =
    let q = counted _ _ _ _ _ _ _ _ _ s.cells_lawful in
    let m = s.cells_lawful.most in
    omega (arith, s.expired.ok.0, s.held.ok.0, s.reserved.ok.0, s.room.1)

pub push_reserved-requires : goal.push_reserved-requires
push_reserved-requires c = room_of c.args.self.now c.requires.some

pub invariant_of-self : goal.invariant_of-self
invariant_of-self c =
    let s = c.args.self.now in
    record {
      cells_lawful = holds_expired _ _ _ _ c.in-Some.cell _ _ s.expired.items _ s.held.items _ _ c.in-Some.ensures.items c.push_reserved.ensures.items s.cells_lawful;
      lawful = s.lawful;
      four = s.four;
      next_claim_is = s.next_claim_is;
      few = s.few;
      room = (omega (arith, s.room.0, c.in-Some.ensures.capacity), omega (arith, s.room.1, c.push_reserved.ensures.capacity), s.room.2, s.room.3);
      windows = s.windows;
      sizes = s.sizes;
    }
