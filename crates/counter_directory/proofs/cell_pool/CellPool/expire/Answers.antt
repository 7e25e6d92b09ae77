use Rattle.counter_directory.proofs.Moves.{later}
use Rattle.counter_directory.proofs.Ringing.{windows_later}
use Rattle.counter_directory.proofs.cell_pool.CellPool.expire.Goals as goal

pub invariant_of-self : goal.invariant_of-self
invariant_of-self c =
    let s = c.args.self.now in
    record {
      cells_lawful = later _ s.last _ _ _ _ _ _ _ _ c.requires s.cells_lawful;
      lawful = s.lawful;
      four = s.four;
      next_claim_is = s.next_claim_is;
      few = s.few;
      room = s.room;
      windows = windows_later s.last _ s.rings.items c.requires s.windows;
      sizes = s.sizes;
    }
