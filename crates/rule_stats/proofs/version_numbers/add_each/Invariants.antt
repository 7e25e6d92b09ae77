use Rattle.std.proofs.Common.{◌≡◌, ℕ, get_or, take}
use Rattle.rule_stats.specs.Statistics.{nothing}
use Rattle.rule_stats.specs.Sums.{plus}
use Rattle.rule_stats.proofs.version_numbers.add_each.Given as goal

abbrev pub invariant-places : goal.invariant-places
invariant-places l = (r : ℕ) → get_or l.rules r nothing ≡ plus (get_or l.fn.rules r nothing) (get_or (take l.place l.others) r nothing)
