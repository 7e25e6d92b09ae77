use Rattle.std.proofs.Common.{arith, sym, ◌∙◌}
use Rattle.counter_cells.proofs.Tables.{tick_asks}
use Rattle.counter_cells.proofs.Passes.{glanced_pass}
use Rattle.counter_cells.proofs.cells.Cells.tick.Goals as goal

pub fetch_max-clock-requires : goal.fetch_max-clock-requires
fetch_max-clock-requires g c =
    let cells = c.args.self.now in
    let found = c.glance-found.ensures in (
      found.seat.0 ∙ sym cells.named.0,
      omega (arith, cells.words.0),
      tick_asks cells.table.shared.key _ _ _ _
          (glanced_pass c.glance-found.result c.get-now.result c.pass.inside.seat.me.0 c.glance-found.new.seat.me.0 found.glanced (omega (arith, c.pass.invariant.1.number)))
          c.get-now.ensures.bound,
    )
