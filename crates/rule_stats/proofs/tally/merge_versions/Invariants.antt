use Rattle.std.proofs.Common.{◌≡◌, ◌≤◌, ℕ, length, take}
use Rattle.rule_stats.specs.Sums.{plus, numbers_at}
use Rattle.rule_stats.proofs.tally.merge_versions.Given as goal

abbrev pub invariant-places : goal.invariant-places
invariant-places l = record {
  long : length l.others ≤ length l.versions.items;
  sums : (version rule : ℕ) → numbers_at l.versions.items version rule
      ≡ plus (numbers_at l.fn.versions.items version rule) (numbers_at (take l.place l.others) version rule);
}
