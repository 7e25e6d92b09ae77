use Rattle.std.proofs.Common.{arith, sym, ◌∙◌}
use Rattle.counter_cells.proofs.Passes.{still_pass, unpin_less, unpin_else}
use Rattle.counter_cells.proofs.Tables.{unpin_asks}
use Rattle.counter_cells.proofs.cells.Cells.unpin.Goals as goal

pub fetch_sub-requires : goal.fetch_sub-requires
fetch_sub-requires g c =
    let cells = c.args.self.now in (
      c.pass.invariant.0.0 ∙ sym cells.named.0,
      omega (arith, c.gate.ensures, cells.words.0, cells.size.0, c.requires.cell),
      unpin_asks cells.table.shared.key _ cells.named.1 _ _ c.args.cell c.gate.result _ c.requires.cell c.gate.ensures (rw c.pass.view_is c.requires.pin),
    )

pub invariant_of-pass : goal.invariant_of-pass
invariant_of-pass g c =
    let i = c.pass.invariant in
    let p = still_pass c.args.cell c.gate.result c.pass.inside.seat.me.0 c.fetch_sub.new.seat.me.0 c.gate.ensures c.fetch_sub.ensures.2.0
    (rw c.pass.view_is c.requires.pin) i.1 in
    ((c.fetch_sub.ensures.0 ∙ i.0.0, c.fetch_sub.ensures.2.1 ∙ i.0.1), p.0, i.2 ∙ sym p.1, omega (arith, p.2, i.3))

pub returns-clause-less : goal.returns-clause-less
returns-clause-less g c =
    unpin_less c.args.cell c.gate.result c.args.pass.now c.pass.inside.seat.me.0 c.fetch_sub.new.seat.me.0 c.pass.view_is c.gate.ensures c.fetch_sub.ensures.2.0 c.requires.pin

pub returns-clause-others : goal.returns-clause-others
returns-clause-others g c =
    unpin_else c.args.cell c.gate.result c.args.pass.now c.pass.inside.seat.me.0 c.fetch_sub.new.seat.me.0 c.pass.view_is c.gate.ensures c.fetch_sub.ensures.2.0 c.requires.pin
