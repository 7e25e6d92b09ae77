use Rattle.std.proofs.Common.{◌≡◌, None, take}
use Rattle.quota_buckets.specs.Tables.{each_set, slot_due, slot_at}
use Rattle.quota_buckets.proofs.slots.plan_each.Given as goal

abbrev pub invariant-loop-place : goal.invariant-loop-place
invariant-loop-place l = l.agenda ≡ each_set (λ place _. slot_due l.time (slot_at l.slots place)) None l.initial.agenda (take l.place-index l.places)
