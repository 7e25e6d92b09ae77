use Rattle.counter_cells.specs.Opened.{table_of, setup_of}
use Rattle.counter_tests.proofs.directory.threads.four_threads_make_claims_that_can_stand_together.Given as goal

-- the cells that were just opened
abbrev pub ghosts-claims_of_four_threads : goal.ghosts-claims_of_four_threads
ghosts-claims_of_four_threads g a = record { table = table_of a.opened; setup = setup_of a.opened }
