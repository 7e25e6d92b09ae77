use Rattle.counter_cells.specs.Opened.{table_of, setup_of}
use Rattle.limiter_tests.proofs.checks.tables.play_table.Given as goal

-- the cells that were just opened
abbrev pub ghosts-played : goal.ghosts-played
ghosts-played g a = record { table = table_of a.opened; setup = setup_of a.opened }
