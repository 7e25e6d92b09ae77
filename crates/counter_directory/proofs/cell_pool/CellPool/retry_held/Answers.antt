use Rattle.std.proofs.Common.{ap, ◌∙◌, arith}
use Rattle.std.specs.Prelude.{vec_capacity}
use Rattle.counter_directory.proofs.Lists.{empty}
use Rattle.counter_directory.proofs.Moves.{swaps_held}
use Rattle.counter_directory.proofs.cell_pool.CellPool.retry_held.Goals as goal

pub invariant_of-self : goal.invariant_of-self
invariant_of-self c =
    let s = c.args.self.now in
    let e = c.swap.ensures in
    record {
      cells_lawful = swaps_held _ _ _ _ _ _ s.expired.items _ s.held.items _ _ (omega (arith, s.expired.ok.0, c.requires)) (ap (λ v. v.items) e.x_after)
          (ap (λ v. v.items) e.y_after) s.cells_lawful;
      lawful = s.lawful;
      four = s.four;
      next_claim_is = s.next_claim_is;
      few = s.few;
      room = (omega (arith, s.room.1, ap (λ v. vec_capacity v) e.x_after), omega (arith, s.room.0, ap (λ v. vec_capacity v) e.y_after), s.room.2, s.room.3);
      windows = s.windows;
      sizes = s.sizes;
    }

pub returns-clause-held : goal.returns-clause-held
returns-clause-held c = let s = c.args.self.now in (
  ap (λ v. v.items) c.swap.ensures.x_after,
  ap (λ v. v.items) c.swap.ensures.y_after ∙ empty s.expired.items (omega (arith, s.expired.ok.0, c.requires)),
)
