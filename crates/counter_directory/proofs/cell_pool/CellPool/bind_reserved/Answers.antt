use Rattle.std.proofs.Common.{◌≡◌, ℕ, ◌≤◌, ◌<◌, List, [], ◌∷◌, refl, sym, ap, ◌∙◌, subst, arith, length-append}
use Rattle.std.specs.Prelude.{length, vec_capacity}
use mathlib.Core.Option.{some}
use lib.ListN.{get_elem?}
use Rattle.rate_types.specs.Units.{unit_rank}
use Rattle.counter_directory.specs.declared.claim.Claim.{Claim}
use Rattle.counter_directory.specs.declared.ring.Ring.{Ring}
use Rattle.counter_directory.specs.declared.cell_pool.CellPool.{CellPool}
use Rattle.counter_directory.specs.Windows.{end_at}
use Rattle.counter_directory.proofs.Lists.{at_index}
use Rattle.rate_types.proofs.Sums.{total_one}
use Rattle.counter_directory.proofs.Moves.{fits_kept, pool_more, lawful_bound, roomy_set}
use Rattle.counter_directory.proofs.Counting.{counted}
use Rattle.counter_directory.proofs.Ringing.{windows_new, end_rank, end_later, start_before}
use Rattle.counter_directory.proofs.cell_pool.CellPool.bind_reserved.Goals as goal

-- a ring has room while a cell is reserved
room_of : (s : CellPool) (u : ℕ) (r : Ring) → get_elem? s.rings.items u ≡ some r → 1 ≤ length s.reserved.items → length r.cells.items < vec_capacity r.cells
room_of s u r at some_reserved =
    let q = counted _ _ _ _ _ _ _ _ _ s.cells_lawful in
    let o = total_one (λ (t : Ring). length t.cells.items) s.rings.items u r at in
    let m = s.cells_lawful.most in
    let c = s.room.3 u r at in
    omega arith

pub push_reserved-requires : goal.push_reserved-requires
push_reserved-requires c =
    let s = c.args.self.now in
    let r = c.index_mut-ring.result.now in
    let u = c.place_of.result in
    let at : get_elem? s.rings.items u ≡ some r = at_index s.rings.items u r (omega (arith, s.rings.ok.0, s.four, c.place_of.ensures.bound)) c.index_mut-ring.ensures.value in
    omega (arith, room_of s u r at (omega (arith, s.reserved.ok.0, c.requires.reserved)), r.cells.ok.0)

pub invariant_of-self : goal.invariant_of-self
invariant_of-self c =
    let s = c.args.self.now in
    let r = c.index_mut-ring.result.now in
    let u = c.place_of.result in
    let rank = c.place_of.ensures.rank in
    let at : get_elem? s.rings.items u ≡ some r = at_index s.rings.items u r (omega (arith, s.rings.ok.0, s.four, c.place_of.ensures.bound)) c.index_mut-ring.ensures.value in
    let here : get_elem? s.rings.items (unit_rank c.args.key.name.unit) ≡ some r = subst (λ n. get_elem? s.rings.items n ≡ some r) rank at in
    let x : Claim = record { key = c.args.key; cell = c.in-Some.spot.cell; claim = c.in-Some.spot.claim; moment = s.last } in
    record {
      cells_lawful = pool_more _ s.last _ _ _ r _ x s.claims _ s.rings.items _ _ s.reserved.items _ c.in-Some.ensures.items c.add.ensures (omega arith) at
          (c.requires.ring r here) c.end_of-ring.ensures c.push_reserved.ensures.items s.cells_lawful;
      lawful = lawful_bound _ s.last _ _ _ x s.claims _ s.rings.items _ _ s.reserved.items _ c.in-Some.ensures.items c.add.ensures refl s.few
          c.requires.counter (start_before s.last c.args.key c.requires.window) (end_later s.last c.args.key c.requires.window) s.cells_lawful s.lawful;
      four = s.four;
      next_claim_is = omega (arith, s.next_claim_is, ap (λ (l : List Claim). length l) c.add.ensures, length-append s.claims (x ∷ []), c.in-Some.ensures.cases);
      few = s.few;
      room = (
        s.room.0,
        s.room.1,
        omega (arith, s.room.2, c.in-Some.ensures.capacity),
        roomy_set s.cells u _ s.rings.items (omega (arith, s.room.3 u r at, c.push_reserved.ensures.capacity)) s.room.3,
      );
      windows = windows_new s.last u _ s.rings.items (c.end_of-ring.ensures ∙ end_rank s.last c.args.key c.requires.window ∙ ap (λ n. end_at n s.last) (sym rank)) s.windows;
      sizes = s.sizes;
    }

pub returns-clause-rings : goal.returns-clause-rings
returns-clause-rings c = λ v e h. fits_kept c.place_of.result _ _ c.args.self.now.rings.items c.end_of-ring.ensures v e (λ q. h (q ∙ c.place_of.ensures.rank))
