use Rattle.std.proofs.Common.{◌≡◌, refl, arith}
use Rattle.std.specs.Prelude.{is_ok}
use mathlib.Core.Option.{some}
use lib.ListN.{get_elem?}
use Rattle.counter_directory.proofs.Lists.{at_index}
use Rattle.counter_directory.proofs.Moves.{empties_ring, ring_stays, expired_more, roomy_set}
use Rattle.counter_directory.proofs.Ringing.{windows_set}
use Rattle.counter_directory.proofs.cell_pool.CellPool.expire_ring.Goals as goal

pub invariant_of-self : goal.invariant_of-self
invariant_of-self c =
    let s = c.args.self.now in
    let r = c.index_mut-ring.result.now in
    let at : get_elem? s.rings.items c.args.unit ≡ some r = at_index s.rings.items c.args.unit r (omega (arith, s.rings.ok.0, s.four)) c.index_mut-ring.ensures.value in
    record {
      cells_lawful = empties_ring (is_ok c.append.result) _ s.last _ _ _ r _ _ _ s.expired.items _ _ _ at
          (omega (arith, c.if-ring-last.true, c.get-last.ensures.value)) refl c.append.ensures.items c.append.ensures.other_items s.cells_lawful;
      lawful = s.lawful;
      four = s.four;
      next_claim_is = s.next_claim_is;
      few = s.few;
      room = (
        omega (arith, s.room.0, c.append.ensures.capacity),
        s.room.1,
        s.room.2,
        roomy_set s.cells c.args.unit _ s.rings.items (omega (arith, s.room.3 c.args.unit r at, c.append.ensures.other_capacity)) s.room.3,
      );
      windows = windows_set _ _ r _ _ at refl s.windows;
      sizes = s.sizes;
    }

pub returns-in_ok-append-clause-expired : goal.returns-in_ok-append-clause-expired
returns-in_ok-append-clause-expired c = expired_more _ _ _ _ (λ _. c.in_ok-append.ensures.other_items) c.requires.before

pub returns-else-ring-last-clause-expired : goal.returns-else-ring-last-clause-expired
returns-else-ring-last-clause-expired c = expired_more _ _ _ _ (λ le. absurd (omega (arith, le, c.if-ring-last.false, c.get-last.ensures.value))) c.requires.before

pub invariant_of-self-else-ring-last : goal.invariant_of-self-else-ring-last
invariant_of-self-else-ring-last c =
    let s = c.args.self.now in
    let r = c.index_mut-ring.result.now in
    let at : get_elem? s.rings.items c.args.unit ≡ some r = at_index s.rings.items c.args.unit r (omega (arith, s.rings.ok.0, s.four)) c.index_mut-ring.ensures.value in
    record {
      cells_lawful = ring_stays _ s.last _ _ _ r _ _ _ _ _ _ at refl refl s.cells_lawful;
      lawful = s.lawful;
      four = s.four;
      next_claim_is = s.next_claim_is;
      few = s.few;
      room = (s.room.0, s.room.1, s.room.2, roomy_set s.cells c.args.unit _ s.rings.items (s.room.3 c.args.unit r at) s.room.3);
      windows = windows_set _ _ r _ _ at refl s.windows;
      sizes = s.sizes;
    }
