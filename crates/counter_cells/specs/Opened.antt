-- Cells before they have a name.
use Rattle.atomic_table.specs.Seated.{TableId}
use Rattle.counter_cells.specs.declared.opened.OpenedCells.{OpenedCells}
use Rattle.counter_cells.specs.declared.setup.Setup.{Setup}

-- the table of the cells, which a name stands for
abbrev pub table_of : OpenedCells → TableId
table_of o = o.table.shared.table_id

-- what is fixed of the cells, which a name stands for
abbrev pub setup_of : OpenedCells → Setup
setup_of o = o.table.shared.key
