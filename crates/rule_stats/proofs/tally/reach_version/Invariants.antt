use Rattle.std.proofs.Common.{◌≡◌, ◌≤◌, ℕ, [], get_or, length}
use Rattle.rule_stats.proofs.tally.reach_version.Given as goal

abbrev pub invariant-places : goal.invariant-places
invariant-places l = record {
  long : l.counter ≤ length l.versions.items;
  same : (version : ℕ) → get_or l.versions.items version [] ≡ get_or l.fn.versions.items version [];
}
