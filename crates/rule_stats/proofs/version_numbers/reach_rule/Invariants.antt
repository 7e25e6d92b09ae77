use Rattle.std.proofs.Common.{◌≡◌, ◌≤◌, ℕ, get_or, length}
use Rattle.rule_stats.specs.Statistics.{nothing}
use Rattle.rule_stats.proofs.version_numbers.reach_rule.Given as goal

abbrev pub invariant-places : goal.invariant-places
invariant-places l = record {
  long : l.counter ≤ length l.rules.items;
  same : (rule : ℕ) → get_or l.rules.items rule nothing ≡ get_or l.fn.rules.items rule nothing;
}
