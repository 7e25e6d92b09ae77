use Rattle.std.proofs.Common.{◌≡◌, ◌≤◌, ◌++◌, ℕ, List, length, map}
use Rattle.std.specs.List.{concat}
use Rattle.rate_io.specs.Content.{Appends}
use Rattle.rate_io.specs.Events.{wrote}
use Rattle.cli_exits.proofs.output.write_each.Given as goal

-- the pieces that were written, and those that are left
abbrev pub invariant-pieces : goal.invariant-pieces
invariant-pieces g l = (done : List (List ℕ)) × (g.P.Pieces.rest l.initial.pieces ≡ done ++ g.P.Pieces.rest l.pieces)
    × Appends (g.K.Sink.written l.initial.sink) (g.K.Sink.written l.sink) (concat done)
    × (g.K.Sink.history l.sink ≡ g.K.Sink.history l.initial.sink ++ map wrote done)
    × (g.K.Sink.faults l.initial.sink ≤ g.K.Sink.faults l.sink)

abbrev pub decreases-pieces : goal.decreases-pieces
decreases-pieces g l = length (g.P.Pieces.rest l.pieces)
