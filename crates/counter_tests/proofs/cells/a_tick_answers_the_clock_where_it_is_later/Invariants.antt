use Rattle.counter_cells.specs.Opened.{table_of, setup_of}
use Rattle.counter_tests.proofs.cells.a_tick_answers_the_clock_where_it_is_later.Given as goal

-- the cells that were just opened
abbrev pub ghosts-tick_in_turn : goal.ghosts-tick_in_turn
ghosts-tick_in_turn g a = record { table = table_of a.opened; setup = setup_of a.opened }
