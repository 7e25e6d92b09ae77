use Rattle.std.proofs.Common.{arith}
use Rattle.std.specs.HashMap.{get}
use Rattle.quota_settings.specs.Pairs.{same_pairs}
use Rattle.quota_buckets.proofs.Closing.{all_placed}
use Rattle.quota_buckets.proofs.Indexing.{at_within}
use Rattle.quota_buckets.proofs.gaps.place_each.Goals as goal

pub returns : goal.returns
returns c =
    all_placed (get same_pairs c.loop-place.index) c.args.slots.now c.loop-place.place c.requires.there c.loop-place.invariant.0
    c.loop-place.invariant.1 (λ place stored at. (let within = at_within c.args.slots.now place stored at in omega arith))
