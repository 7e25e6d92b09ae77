use Rattle.counter_cells.specs.Opened.{table_of, setup_of}
use Rattle.limiter_tests.proofs.workers.two_workers_run_each_line_once.Given as goal

-- the cells that were just opened
abbrev pub ghosts-run : goal.ghosts-run
ghosts-run g a = record { table = table_of a.opened; setup = setup_of a.opened }
