use Rattle.counter_cells.specs.Opened.{table_of, setup_of}
use Rattle.counter_tests.proofs.directory.a_cell_is_free_once_the_window_of_its_unit_ends.Given as goal

-- the cells that were just opened
abbrev pub ghosts-take_around : goal.ghosts-take_around
ghosts-take_around g a = record { table = table_of a.opened; setup = setup_of a.opened }
