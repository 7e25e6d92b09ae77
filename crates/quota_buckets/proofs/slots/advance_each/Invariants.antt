use Rattle.std.proofs.Common.{◌≡◌, take, None}
use Rattle.std.specs.HashMap.{get}
use Rattle.quota_settings.specs.Pairs.{same_pairs}
use Rattle.quota_buckets.specs.Slots.{IsIndex}
use Rattle.quota_buckets.specs.Tables.{each_set, slot_advanced}
use Rattle.quota_buckets.proofs.slots.advance_each.Given as goal

abbrev pub invariant-loop-place : goal.invariant-loop-place
invariant-loop-place l =
    (l.slots ≡ each_set (λ place. slot_advanced l.advance) None l.initial.slots (take l.place-index l.places))
    × IsIndex (get same_pairs l.index) l.slots
