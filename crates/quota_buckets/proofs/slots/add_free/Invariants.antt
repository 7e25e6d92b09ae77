use Rattle.std.proofs.Common.{◌≡◌, ◌++◌, None, replicate}
use Rattle.quota_buckets.proofs.slots.add_free.Given as goal

abbrev pub invariant-loop : goal.invariant-loop
invariant-loop l = l.moments.items ≡ l.initial.moments.items ++ replicate l.counter None
