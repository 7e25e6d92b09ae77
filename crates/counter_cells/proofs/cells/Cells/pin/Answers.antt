use Rattle.std.proofs.Common.{arith, sym, ◌∙◌}
use Rattle.counter_cells.proofs.Passes.{strays}
use Rattle.counter_cells.proofs.Tables.{unpin_stray_asks}
use Rattle.counter_cells.proofs.cells.Cells.pin.Goals as goal

pub fetch_sub-requires : goal.fetch_sub-requires
fetch_sub-requires g c =
    let cells = c.args.self.now in
    let taken = c.take_pin-word.ensures in (
      taken.seat.0 ∙ sym cells.named.0,
      omega (arith, c.gate.ensures, cells.words.0, cells.size.0, c.requires.cell),
      unpin_stray_asks cells.table.shared.key _ cells.named.1 _ _ c.args.spot.cell c.gate.result _ c.requires.cell c.gate.ensures
          (strays c.args.spot.claim c.args.spot.cell c.take_pin-word.result c.pass.inside.seat.me.0 c.take_pin-word.new.seat.me.0 taken.pinned
          (sym c.shows.ensures ∙ c.if-shows.false)),
    )
