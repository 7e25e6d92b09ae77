use Rattle.std.proofs.Common.{◌≡◌}
use Rattle.limiter_tests.proofs.checks.tables.play.Given as goal

abbrev pub invariant-rows : goal.invariant-rows
invariant-rows g l = record {
  one : l.one.limiter ≡ l.limiter.id;
  other : l.other.limiter ≡ l.limiter.id;
}
