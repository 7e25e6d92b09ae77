use Rattle.counter_cells.specs.Opened.{table_of, setup_of}
use Rattle.counter_tests.proofs.directory.an_ended_cell_is_held_while_it_is_pinned.Given as goal

-- the cells that were just opened
abbrev pub ghosts-hold_an_ended_cell : goal.ghosts-hold_an_ended_cell
ghosts-hold_an_ended_cell g a = record { table = table_of a.opened; setup = setup_of a.opened }
