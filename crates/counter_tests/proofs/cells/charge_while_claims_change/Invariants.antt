use Rattle.std.proofs.Common.{◌≡◌, []}
use Rattle.counter_tests.proofs.cells.charge_while_claims_change.Given as goal

abbrev pub invariant-loop-round : goal.invariant-loop-round
invariant-loop-round g l = l.pass.good ≡ []
