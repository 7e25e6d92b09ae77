use Rattle.std.specs.HashMap.{get}
use Rattle.quota_settings.specs.Pairs.{same_pairs}
use Rattle.quota_buckets.specs.Slots.{ArePlaced, IsNamed}
use Rattle.quota_buckets.proofs.gaps.place_each.Given as goal

abbrev pub invariant-loop-place : goal.invariant-loop-place
invariant-loop-place l = IsNamed (get same_pairs l.index) l.slots × ArePlaced l.place (get same_pairs l.index) l.slots
