use Rattle.counter_cells.specs.Opened.{table_of, setup_of}
use Rattle.counter_tests.proofs.cells.reclaims_end_beside_pins.Given as goal

-- the cells that were just opened
abbrev pub ghosts-pin_beside_reclaims : goal.ghosts-pin_beside_reclaims
ghosts-pin_beside_reclaims g a = record { table = table_of a.opened; setup = setup_of a.opened }
