use Rattle.counter_cells.specs.Opened.{table_of, setup_of}
use Rattle.counter_tests.proofs.directory.a_cell_of_a_later_window_is_full.Given as goal

-- the cells that were just opened
abbrev pub ghosts-take_the_expired_cell : goal.ghosts-take_the_expired_cell
ghosts-take_the_expired_cell g a = record { table = table_of a.opened; setup = setup_of a.opened }
