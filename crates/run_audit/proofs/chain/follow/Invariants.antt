use Rattle.std.proofs.Common.{◌≡◌, ◌-◌, drop}
use Rattle.rate_types.specs.Counters.{same_counter}
use Rattle.run_audit.specs.Chain.{follow}
use Rattle.run_audit.proofs.chain.follow.Given as goal

abbrev pub invariant-charges : goal.invariant-charges
invariant-charges l = follow same_counter l.charges ≡ follow same_counter (drop (l.i - 1) l.charges)
