use Rattle.std.proofs.Common.{arith, sym, ◌∙◌}
use Rattle.counter_cells.proofs.Tables.{glance_asks}
use Rattle.counter_cells.proofs.cells.Cells.glance.Goals as goal

pub load-requires : goal.load-requires
load-requires g c =
    let cells = c.args.self.now in (
      c.requires.seat.0.0 ∙ sym cells.named.0,
      omega (arith, cells.words.0),
      glance_asks cells.table.shared.key _ _ _ _ (omega (arith, c.requires.seat.1)) (omega (arith, c.requires.now.0, c.requires.now.1)),
    )
