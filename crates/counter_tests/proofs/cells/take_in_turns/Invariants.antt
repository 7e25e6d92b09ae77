use Rattle.std.proofs.Common.{◌≡◌, ℕ, ◌+◌, ◌≤◌}
use Rattle.rate_types.specs.Sums.{times}
use Rattle.counter_tests.proofs.cells.take_in_turns.Given as goal

abbrev pub invariant-loop-round : goal.invariant-loop-round
invariant-loop-round g l = record {
  next : l.next ≤ l.round + 1;
  never_used : (c : ℕ) → l.next ≤ c → times c l.claimer.used_claims ≡ 0;
}
