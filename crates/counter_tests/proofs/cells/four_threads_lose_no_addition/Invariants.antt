use Rattle.counter_cells.specs.Opened.{table_of, setup_of}
use Rattle.counter_tests.proofs.cells.four_threads_lose_no_addition.Given as goal

-- the cells that were just opened
abbrev pub ghosts-charge_in_threads : goal.ghosts-charge_in_threads
ghosts-charge_in_threads g a = record { table = table_of a.opened; setup = setup_of a.opened }
