use Rattle.std.proofs.Common.{arith, sym, ◌∙◌}
use Rattle.counter_cells.proofs.Tables.{open_asks}
use Rattle.counter_cells.proofs.cells.Cells.open_cell.Goals as goal

pub fetch_or-requires : goal.fetch_or-requires
fetch_or-requires g c =
    let cells = c.args.self.now in (
      c.claimer.invariant.0.0 ∙ sym cells.named.0,
      omega (arith, c.gate.ensures, cells.words.0, cells.size.0, c.requires.cell),
      open_asks cells.table.shared.key _ cells.named.1 _ _ c.args.cell c.gate.result _ c.requires.cell c.gate.ensures c.claimer.invariant.1.role
          (rw c.claimer.view_is c.requires.taken.0) (rw c.claimer.view_is c.requires.taken.1),
    )
