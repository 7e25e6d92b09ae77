use Rattle.std.proofs.Common.{arith, sym, ◌∙◌}
use Rattle.counter_cells.proofs.Tables.{hear_asks}
use Rattle.counter_cells.proofs.cells.Cells.hear.Goals as goal

pub load-requires : goal.load-requires
load-requires g c =
    let cells = c.args.self.now in (
      c.claimer.invariant.0.0 ∙ sym cells.named.0,
      omega (arith, cells.words.0),
      hear_asks cells.table.shared.key _ _ _,
    )
