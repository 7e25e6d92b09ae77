use Rattle.std.proofs.Common.{◌≡◌, take, map}
use Rattle.quota_buckets.specs.Tables.{slot_due, without_gaps}
use Rattle.quota_buckets.proofs.slots.moments_of.Given as goal

abbrev pub invariant-loop-slot : goal.invariant-loop-slot
invariant-loop-slot l = l.moments.items ≡ map (slot_due l.time) (without_gaps (take l.slot-index l.slots))
