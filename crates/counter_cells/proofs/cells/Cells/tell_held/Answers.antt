use Rattle.std.proofs.Common.{ℕ, sym, ap, ◌∙◌, subst, arith}
use Rattle.atomic_table.specs.Table.{Me, Joins}
use Rattle.counter_cells.specs.declared.view.CellView.{CellView}
use Rattle.counter_cells.specs.Lawful.{AreLawful}
use Rattle.counter_cells.specs.Steps.{empty_view}
use Rattle.counter_cells.specs.InnerSteps.{without_newest, held_note, newest, told_held}
use Rattle.counter_cells.proofs.Regrouping.{splits_as, joins_as}
use Rattle.counter_cells.proofs.Handing.{splits_held, joins_held}
use Rattle.counter_cells.proofs.cells.Cells.tell_held.Goals as goal

pub split_seat-note-requires : goal.split_seat-note-requires
split_seat-note-requires g c =
    let cells = c.args.self.now in
    let v = c.claimer.inside.seat.me.0 in (
      c.claimer.invariant.0.0 ∙ sym cells.named.0,
      omega (arith, cells.words.0),
      splits_as cells.table.shared.key _ v (without_newest v) (held_note v) (splits_held cells.table.shared.key _ v),
    )

pub join_seat-requires : goal.join_seat-requires
join_seat-requires g c =
    let cells = c.args.self.now in
    let key = cells.table.shared.key in
    let v = c.pass.inside.seat.me.0 in
    let n = c.claimer.inside.seat.me.0 in
    let is = ap (λ (m : Me ℕ CellView). m.0) c.split_seat-note.ensures.4 in (
      c.pass.invariant.0.0 ∙ sym cells.named.0,
      c.split_seat-note.ensures.3 ∙ c.claimer.invariant.0.0 ∙ sym cells.named.0,
      ap (λ (m : Me ℕ CellView). m.1) c.split_seat-note.ensures.4,
      omega (arith, cells.words.0),
      subst (λ (w : CellView). Joins (AreLawful key) c.pass.inside.seat.id v c.split_seat-note.result.id w (told_held v w) empty_view) (sym is)
          (joins_as key _ v _ (held_note n) (told_held v (held_note n)) empty_view (joins_held key _ _ v (newest n.held))),
    )
