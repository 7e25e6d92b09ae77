use Rattle.std.proofs.Common.{arith, sym, ◌∙◌}
use Rattle.counter_cells.proofs.Tables.{charge_asks}
use Rattle.counter_cells.proofs.cells.Cells.charge.Goals as goal

pub fetch_add-requires : goal.fetch_add-requires
fetch_add-requires g c =
    let cells = c.args.self.now in (
      c.pass.invariant.0.0 ∙ sym cells.named.0,
      omega (arith, c.count.ensures, cells.words.0, cells.size.0, c.requires.cell),
      charge_asks cells.table.shared.key _ cells.named.1 _ _ c.args.cell c.count.result _ c.requires.cell c.count.ensures c.from.result
          (rw c.pass.view_is c.requires.looked)
          (omega (arith, c.from.ensures, c.requires.hits), omega (arith, c.from.ensures, c.ranges.hits.fits)),
    )
