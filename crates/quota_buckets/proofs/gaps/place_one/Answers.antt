use Rattle.std.proofs.Common.{◌≡◌, ◌∙◌, Some}
use Rattle.std.specs.HashMap.{get}
use Rattle.quota_settings.specs.Pairs.{same_pairs}
use Rattle.quota_buckets.specs.Slots.{IsSet}
use Rattle.quota_buckets.specs.Tables.{slot_at}
use Rattle.quota_buckets.proofs.Closing.{names_set, places_set}
use Rattle.quota_buckets.proofs.Steps.{read_at}
use Rattle.quota_buckets.proofs.gaps.place_one.Goals as goal

pub returns-in-Some-clause-names : goal.returns-in-Some-clause-names
returns-in-Some-clause-names c =
    let at : slot_at c.args.slots.now c.args.place ≡ Some c.in-Some.bucket =
    read_at c.args.slots.now c.args.place c.index-slots-place.result c.requires.within c.index-slots-place.is ∙ c.in-Some.is in
    let set : IsSet (get same_pairs c.args.index.now) (get same_pairs c.set_place.new.index) c.in-Some.bucket.id c.args.place =
    (λ q. rw (← c.id.ensures) (c.set_place.ensures q)) in
    names_set (get same_pairs c.args.index.now) (get same_pairs c.set_place.new.index) c.args.slots.now c.args.place c.in-Some.bucket
    c.requires.names at set

pub returns-in-Some-clause-placed : goal.returns-in-Some-clause-placed
returns-in-Some-clause-placed c =
    let at : slot_at c.args.slots.now c.args.place ≡ Some c.in-Some.bucket =
    read_at c.args.slots.now c.args.place c.index-slots-place.result c.requires.within c.index-slots-place.is ∙ c.in-Some.is in
    let set : IsSet (get same_pairs c.args.index.now) (get same_pairs c.set_place.new.index) c.in-Some.bucket.id c.args.place =
    (λ q. rw (← c.id.ensures) (c.set_place.ensures q)) in
    places_set (get same_pairs c.args.index.now) (get same_pairs c.set_place.new.index) c.args.slots.now c.args.place c.in-Some.bucket
    c.requires.distinct c.requires.before at set
