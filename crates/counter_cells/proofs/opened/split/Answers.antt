use Rattle.std.proofs.Common.{arith, ℕ, sym, ap, ◌∙◌}
use Rattle.atomic_table.specs.Seated.{TableId}
use Rattle.atomic_table.specs.Table.{Me}
use Rattle.counter_cells.specs.declared.view.CellView.{CellView}
use Rattle.counter_cells.specs.declared.setup.Setup.{Setup}
use Rattle.counter_cells.specs.InnerSteps.{one_less, new_pass}
use Rattle.counter_cells.proofs.Regrouping.{splits_as}
use Rattle.counter_cells.proofs.Splitting.{splits}
use Rattle.counter_cells.proofs.opened.split.Goals as goal

pub split_seat-seat-requires : goal.split_seat-seat-requires
split_seat-seat-requires g c =
    let v = c.args.claimer.now.me.0 in
    let is = c.requires.claimer.1 in (
      c.requires.claimer.0 ∙ sym c.requires.table.0,
      omega (arith, ap (λ (t : TableId). t.words) c.requires.table.0, c.requires.table.2),
      splits_as c.args.table.now.shared.key c.args.claimer.now.id v (one_less v) (new_pass v)
          (splits c.args.table.now.shared.key c.args.claimer.now.id v (let e = ap (λ (m : Me ℕ CellView). m.0.unmade) is in omega (arith, c.requires.left.0))
          (ap (λ (m : Me ℕ CellView). m.0.claimer) is)
          (ap (λ (m : Me ℕ CellView). m.0.moment) is ∙ ap (λ (a : Setup). a.start) (sym c.requires.table.1))),
    )
