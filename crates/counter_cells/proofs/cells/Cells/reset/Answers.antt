use Rattle.std.proofs.Common.{arith, sym, ◌∙◌}
use Rattle.counter_cells.proofs.Tables.{reset_asks}
use Rattle.counter_cells.proofs.cells.Cells.reset.Goals as goal

pub store-requires : goal.store-requires
store-requires g c =
    let cells = c.args.self.now in (
      c.claimer.invariant.0.0 ∙ sym cells.named.0,
      omega (arith, c.count.ensures, cells.words.0, cells.size.0, c.requires.cell),
      reset_asks cells.table.shared.key _ cells.named.1 _ _ c.args.cell c.count.result _ c.requires.cell c.count.ensures c.claimer.invariant.1.role
          (rw c.claimer.view_is c.requires.taken),
    )
