use Rattle.quota_settings.specs.Pairs.{IsBucketId}
use Rattle.quota_settings.proofs.Naming.{given_sorted, given_named, some_named}
use Rattle.quota_settings.proofs.part.Parts.id.Goals as goal

pub sorted-requires : goal.sorted-requires
sorted-requires c =
    given_sorted c.self.inside.items.items c.deref.result.now c.args.attributes.now c.in_ok-pairs.pairs.items c.deref.ensures.value
    c.in_ok-pairs.ensures c.self.invariant

pub unwrap-requires : goal.unwrap-requires
unwrap-requires c =
    let named : IsBucketId c.in_ok-pairs.pairs.items =
    given_named c.self.inside.items.items c.deref.result.now c.args.attributes.now c.in_ok-pairs.pairs.items c.deref.ensures.value
    c.in_ok-pairs.ensures c.self.invariant (rw c.self.view_is c.requires) in
    some_named c.of.result c.sorted.result c.of.ensures.none (rw c.sorted.ensures named)
