use Rattle.std.proofs.Common.{arith, sym, ap, ◌∙◌}
use Rattle.counter_cells.specs.declared.view.CellView.{CellView}
use Rattle.rate_types.specs.Sums.{times}
use Rattle.counter_cells.proofs.Passes.{bare_is}
use Rattle.counter_cells.proofs.Tables.{peek_asks, reclaim_asks}
use Rattle.counter_cells.proofs.cells.Cells.reclaim.Goals as goal

pub load-word-requires : goal.load-word-requires
load-word-requires g c =
    let cells = c.args.self.now in (
      c.claimer.invariant.0.0 ∙ sym cells.named.0,
      omega (arith, c.gate-index.ensures, cells.words.0, cells.size.0, c.requires.cell),
      peek_asks cells.table.shared.key _ cells.named.1 _ _ c.args.cell c.gate-index.result _ c.requires.cell c.gate-index.ensures c.claimer.invariant.1.role,
    )

pub compare_exchange-found-requires : goal.compare_exchange-found-requires
compare_exchange-found-requires g c =
    let cells = c.args.self.now in
    let peeked = c.load-word.ensures.2.0 in (
      c.load-word.ensures.0 ∙ c.claimer.invariant.0.0 ∙ sym cells.named.0,
      omega (arith, c.gate-index.ensures, cells.words.0, cells.size.0, c.requires.cell),
      reclaim_asks cells.table.shared.key _ cells.named.1 _ _ c.args.cell c.gate-index.result _ c.requires.cell c.gate-index.ensures c.without_pins-bare.result c.closed.result
          c.args.next
          (ap (λ (v : CellView). v.claimer) peeked.0 ∙ c.claimer.invariant.1.role)
          (bare_is c.args.cell c.gate-index.result c.load-word.result c.without_pins-bare.result c.claimer.inside.seat.me.0 c.load-word.new.seat.me.0 c.gate-index.ensures
          peeked.0 peeked.1 peeked.2 c.without_pins-bare.ensures)
          c.closed.ensures c.requires.next.0
          (ap (λ (v : CellView). times c.args.next v.used_claims) (peeked.0 ∙ c.claimer.view_is) ∙ c.requires.next.1),
    )
