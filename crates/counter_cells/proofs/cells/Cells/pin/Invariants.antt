use Rattle.counter_cells.proofs.cells.Cells.pin.Given as goal

-- the claim that the spot asks for
abbrev pub ghosts-take_pin : goal.ghosts-take_pin
ghosts-take_pin g a = record { asked = a.spot.claim }
