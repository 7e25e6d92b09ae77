use Rattle.counter_cells.specs.Opened.{table_of, setup_of}
use Rattle.counter_tests.proofs.directory.a_third_claim_of_two_is_refused.Given as goal

-- the cells that were just opened
abbrev pub ghosts-claim_three : goal.ghosts-claim_three
ghosts-claim_three g a = record { table = table_of a.opened; setup = setup_of a.opened }
