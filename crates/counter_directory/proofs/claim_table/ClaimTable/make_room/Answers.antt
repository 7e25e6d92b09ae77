use Rattle.std.proofs.Common.{arith}
use Rattle.counter_directory.proofs.Indexing.{index_same}
use Rattle.counter_directory.proofs.claim_table.ClaimTable.make_room.Goals as goal

pub make_room-requires : goal.make_room-requires
make_room-requires g c = omega (arith, c.args.self.now.index.ok.0, c.args.self.now.found.four)

pub invariant_of-self : goal.invariant_of-self
invariant_of-self g c =
    let b = c.args.self.now in
    let e = c.make_room.ensures in
    record {
      size = b.size;
      heard = b.heard;
      gates = b.gates;
      found = index_same b.pool.last b.pool.claims b.index.items _ (omega (arith, c.make_room.new.units.ok.0, e.four)) e.same b.found;
    }
