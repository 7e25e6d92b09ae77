use Rattle.counter_directory.proofs.Open.{OpenBelow}
use Rattle.counter_directory.proofs.closed.ClosedDirectory.open_claims.Given as goal

abbrev pub invariant-loop-unit : goal.invariant-loop-unit
invariant-loop-unit g l = OpenBelow l.unit-index l.self.last l.self.claims l.list.items
