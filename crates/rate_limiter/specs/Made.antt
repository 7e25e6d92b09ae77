-- Inside: passes of cells that have done nothing yet.
use Rattle.std.specs.Prelude.{◌≡◌, ℕ}
use Rattle.counter_cells.specs.Steps.{number_of, fresh_pass}
use Rattle.counter_cells.specs.declared.view.CellView.{CellView}

-- it is as it was made, with its number
abbrev pub IsNewCellPass : ℕ → CellView → Type 0
IsNewCellPass start v = v ≡ fresh_pass (number_of v) start
