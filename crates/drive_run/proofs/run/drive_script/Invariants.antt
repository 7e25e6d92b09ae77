use Rattle.counter_cells.specs.Opened.{table_of, setup_of}
use Rattle.drive_run.proofs.run.drive_script.Given as goal

-- the cells that were just opened
abbrev pub ghosts-drive_on : goal.ghosts-drive_on
ghosts-drive_on g a = record { table = table_of a.opened; setup = setup_of a.opened }
