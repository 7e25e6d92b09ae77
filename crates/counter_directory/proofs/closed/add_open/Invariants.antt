use Rattle.std.proofs.Common.{◌≡◌, ◌++◌, map}
use Rattle.counter_directory.specs.Open.{open_at}
use Rattle.counter_directory.proofs.closed.add_open.Given as goal

abbrev pub invariant-loop-name : goal.invariant-loop-name
invariant-loop-name l = l.list.items ++ map (open_at l.last) l.name-iterator ≡ l.initial.list.items ++ map (open_at l.last) l.unit.spots.entries
