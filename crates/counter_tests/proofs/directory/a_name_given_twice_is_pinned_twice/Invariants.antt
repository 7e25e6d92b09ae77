use Rattle.counter_cells.specs.Opened.{table_of, setup_of}
use Rattle.counter_tests.proofs.directory.a_name_given_twice_is_pinned_twice.Given as goal

-- the cells that were just opened
abbrev pub ghosts-pin_twice : goal.ghosts-pin_twice
ghosts-pin_twice g a = record { table = table_of a.opened; setup = setup_of a.opened }
