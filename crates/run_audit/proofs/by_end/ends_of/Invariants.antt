use Rattle.std.proofs.Common.{◌≡◌, ◌++◌, map}
use Rattle.run_audit.specs.ByEnd.{ended}
use Rattle.run_audit.proofs.by_end.ends_of.Given as goal

abbrev pub invariant-counters : goal.invariant-counters
invariant-counters l = l.ends.items ++ map ended l.key-iterator ≡ map ended l.counters.entries
