-- No cells: what a name stands for until a call picks it.
use Rattle.std.specs.Prelude.{[]}
use Rattle.atomic_table.specs.Seated.{TableId}
use Rattle.counter_cells.specs.declared.setup.Setup.{Setup}

-- the table of no cells
abbrev pub no_table : TableId
no_table = record { words = 0; slots = 0; views_name = 0; atom = 0; block = 0; offset = 0; slot_names = [] }

-- what is fixed of no cells
abbrev pub no_setup : Setup
no_setup = record { cells = 0; passes = 0; start = 0 }
