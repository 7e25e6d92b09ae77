use Rattle.counter_cells.proofs.cells.Cells.tick.Given as goal

-- the moment that is asked for
abbrev pub ghosts-glance : goal.ghosts-glance
ghosts-glance g a = record { asked = a.now }
