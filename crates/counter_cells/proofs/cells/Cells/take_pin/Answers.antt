use Rattle.std.proofs.Common.{arith, length, sym, ap, ◌∙◌}
use Rattle.counter_cells.proofs.Tables.{pin_asks}
use Rattle.counter_cells.proofs.cells.Cells.take_pin.Goals as goal

pub fetch_add-requires : goal.fetch_add-requires
fetch_add-requires g c =
    let cells = c.args.self.now in (
      c.requires.seat.0.0 ∙ sym cells.named.0,
      omega (arith, c.gate.ensures, cells.words.0, cells.size.0, c.requires.cell),
      pin_asks cells.table.shared.key _ cells.named.1 _ _ c.args.spot.cell c.gate.result _ c.requires.cell c.gate.ensures _
          (let none = ap length c.requires.seat.2 in omega (arith, c.requires.room), omega (arith, c.requires.seat.1)),
    )
