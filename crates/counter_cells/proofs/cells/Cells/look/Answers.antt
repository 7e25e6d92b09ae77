use Rattle.std.proofs.Common.{arith, sym, ◌∙◌}
use Rattle.counter_cells.proofs.Tables.{look_asks}
use Rattle.counter_cells.proofs.cells.Cells.look.Goals as goal

pub load-requires : goal.load-requires
load-requires g c =
    let cells = c.args.self.now in (
      c.pass.invariant.0.0 ∙ sym cells.named.0,
      omega (arith, c.count.ensures, cells.words.0, cells.size.0, c.requires.cell),
      look_asks cells.table.shared.key _ cells.named.1 _ _ c.args.cell c.count.result _ c.requires.cell c.count.ensures (rw c.pass.view_is c.requires.pin),
    )
