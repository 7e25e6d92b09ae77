use Rattle.counter_cells.specs.Opened.{table_of, setup_of}
use Rattle.counter_tests.proofs.cells.a_pinned_cell_is_held.Given as goal

-- the cells that were just opened
abbrev pub ghosts-hold_and_take : goal.ghosts-hold_and_take
ghosts-hold_and_take g a = record { table = table_of a.opened; setup = setup_of a.opened }
