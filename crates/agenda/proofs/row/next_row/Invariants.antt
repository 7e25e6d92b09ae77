use Rattle.std.proofs.Common.{◌≡◌, take}
use Rattle.agenda.specs.Halves.{halves}
use Rattle.agenda.proofs.row.next_row.Given as goal

abbrev pub invariant-loop-pair : goal.invariant-loop-pair
invariant-loop-pair l = l.row.items ≡ take l.pair (halves l.moments)
