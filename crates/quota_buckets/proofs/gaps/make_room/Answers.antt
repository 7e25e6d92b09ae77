use Rattle.std.proofs.Common.{◌≡◌, ◌∙◌, ap}
use Rattle.std.specs.HashMap.{get}
use Rattle.quota_settings.specs.Pairs.{same_pairs}
use Rattle.quota_buckets.specs.Tables.{held, without_gaps}
use Rattle.quota_buckets.proofs.Closing.{distinct_closed, there_closed, named_closed, held_same}
use Rattle.quota_buckets.proofs.gaps.make_room.Goals as goal

pub place_each-requires-clause-distinct : goal.place_each-requires-clause-distinct
place_each-requires-clause-distinct c =
    let closed : c.deref-2.result.now ≡ without_gaps c.args.slots.now.items = c.deref-2.ensures.value ∙ c.close_gaps.ensures in
    distinct_closed (get same_pairs c.args.index.now) c.args.slots.now.items c.deref-2.result.now c.requires.indexed closed

pub place_each-requires-clause-there : goal.place_each-requires-clause-there
place_each-requires-clause-there c =
    let closed : c.deref-2.result.now ≡ without_gaps c.args.slots.now.items = c.deref-2.ensures.value ∙ c.close_gaps.ensures in
    there_closed (get same_pairs c.args.index.now) c.args.slots.now.items c.deref-2.result.now c.requires.indexed closed

pub place_each-requires-clause-names : goal.place_each-requires-clause-names
place_each-requires-clause-names c =
    let closed : c.deref-2.result.now ≡ without_gaps c.args.slots.now.items = c.deref-2.ensures.value ∙ c.close_gaps.ensures in
    named_closed (get same_pairs c.args.index.now) c.args.slots.now.items c.deref-2.result.now c.requires.indexed closed

pub returns-clause-held : goal.returns-clause-held
returns-clause-held c = ap held c.close_gaps.ensures ∙ held_same c.args.slots.now.items
