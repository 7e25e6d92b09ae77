use Rattle.std.proofs.Common.{get_or, sym, ap, ◌∙◌, subst, arith}
use Rattle.std.specs.Mem.Slots.{slots_items}
use Rattle.counter_cells.specs.WordIndex.{count_at}
use Rattle.counter_cells.specs.Closing.{TicksAreLawful, ticks_of}
use Rattle.counter_cells.proofs.Sums.{at_read, at_within}
use Rattle.counter_cells.proofs.Closing.{closes}
use Rattle.counter_cells.proofs.cells.Cells.close.Goals as goal

pub returns-clause-ledger : goal.returns-clause-ledger
returns-clause-ledger g c all =
    let self = c.args.self in
    (closes self.table.shared.key _ self.named.1 _ c.into_seat-seat.result.me.0 c.join_passes.new.claimer.me.0 c.args.claimer c.args.passes.items _ _ c.join_passes.ensures.joined
    c.into_seat-seat.ensures.seat.1 c.into_seat-seat.ensures.claimer c.join_passes.ensures.numbers all c.close_with-closed.ensures.values.2).ledger

pub returns-clause-sights : goal.returns-clause-sights
returns-clause-sights g c all =
    let self = c.args.self in
    (closes self.table.shared.key _ self.named.1 _ c.into_seat-seat.result.me.0 c.join_passes.new.claimer.me.0 c.args.claimer c.args.passes.items _ _ c.join_passes.ensures.joined
    c.into_seat-seat.ensures.seat.1 c.into_seat-seat.ensures.claimer c.join_passes.ensures.numbers all c.close_with-closed.ensures.values.2).sights

pub returns-clause-counts : goal.returns-clause-counts
returns-clause-counts g c all k st at open_ =
    let self = c.args.self in
    let e = closes self.table.shared.key _ self.named.1 _ c.into_seat-seat.result.me.0 c.join_passes.new.claimer.me.0 c.args.claimer c.args.passes.items _ _
    c.join_passes.ensures.joined c.into_seat-seat.ensures.seat.1 c.into_seat-seat.ensures.claimer c.join_passes.ensures.numbers all c.close_with-closed.ensures.values.2 in
    let within = at_within c.args.claimer.cells k st at in
    let read = c.loop-cell.invariant.each k (omega (arith, c.into_seat-seat.ensures.claimer.long, self.size.0, c.loop-cell-test.false)) in
    ap (λ l. get_or l k 0) c.of.ensures ∙ sym (at_read (slots_items c.close_with-closed.result.words) (count_at k) _ read) ∙ e.counts k st at open_

pub returns-clause-ticks : goal.returns-clause-ticks
returns-clause-ticks g c all =
    let self = c.args.self in
    let e = closes self.table.shared.key _ self.named.1 _ c.into_seat-seat.result.me.0 c.join_passes.new.claimer.me.0 c.args.claimer c.args.passes.items _ _
    c.join_passes.ensures.joined c.into_seat-seat.ensures.seat.1 c.into_seat-seat.ensures.claimer c.join_passes.ensures.numbers all c.close_with-closed.ensures.values.2 in
    let word = at_read (slots_items c.close_with-closed.result.words) 0 c.word-2.result c.word-2.ensures in
    subst (λ m. TicksAreLawful g.N.CellNaming.setup.start m (ticks_of c.args.passes.items)) (let low = e.low in omega (arith, word, c.capped-moment.ensures)) e.ticks

pub returns-clause-held : goal.returns-clause-held
returns-clause-held g c all =
    let self = c.args.self in
    (closes self.table.shared.key _ self.named.1 _ c.into_seat-seat.result.me.0 c.join_passes.new.claimer.me.0 c.args.claimer c.args.passes.items _ _ c.join_passes.ensures.joined
    c.into_seat-seat.ensures.seat.1 c.into_seat-seat.ensures.claimer c.join_passes.ensures.numbers all c.close_with-closed.ensures.values.2).held

pub returns-clause-heard : goal.returns-clause-heard
returns-clause-heard g c all =
    let self = c.args.self in
    let e = closes self.table.shared.key _ self.named.1 _ c.into_seat-seat.result.me.0 c.join_passes.new.claimer.me.0 c.args.claimer c.args.passes.items _ _
    c.join_passes.ensures.joined c.into_seat-seat.ensures.seat.1 c.into_seat-seat.ensures.claimer c.join_passes.ensures.numbers all c.close_with-closed.ensures.values.2 in
    let word = at_read (slots_items c.close_with-closed.result.words) 0 c.word-2.result c.word-2.ensures in
    let low = e.low in
    let heard = e.heard in
    omega (arith, word, c.capped-moment.ensures)
