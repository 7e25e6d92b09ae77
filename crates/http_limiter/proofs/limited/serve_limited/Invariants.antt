use Rattle.counter_cells.specs.Opened.{table_of, setup_of}
use Rattle.http_limiter.proofs.limited.serve_limited.Given as goal

-- the cells that were just opened
abbrev pub ghosts-serve_made : goal.ghosts-serve_made
ghosts-serve_made g a = record { table = table_of a.parts.opened; setup = setup_of a.parts.opened }
