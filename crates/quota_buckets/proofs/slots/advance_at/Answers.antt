use Rattle.std.proofs.Common.{◌∙◌, sym, ap, option_map, get_or, None}
use Rattle.std.proofs.lemmas.List.{get_or_default}
use Rattle.std.specs.HashMap.{get}
use Rattle.quota_settings.specs.Pairs.{same_pairs}
use Rattle.quota_buckets.proofs.Steps.{advanced_gone, advanced_there}
use Rattle.quota_buckets.proofs.slots.advance_at.Goals as goal

pub returns-in-Some-clause-index : goal.returns-in-Some-clause-index
returns-in-Some-clause-index c =
    advanced_gone (get same_pairs c.args.index.now) (get same_pairs c.remove.new.self) c.args.slots.now c.args.place c.args.advance.now
    c.in-Some.erased (get_or c.args.slots.now c.args.place c.index-slots-place.result) c.advance_slot.new.slot c.requires.index
    (get_or_default c.args.slots.now c.args.place None c.index-slots-place.result c.requires.within)
    (ap (option_map (λ stored. stored.id)) (sym c.in-Some.is) ∙ c.advance_slot.ensures.erased)
    (λ q. rw (← c.id.ensures) (c.remove.ensures.updates.0 q)) c.advance_slot.ensures.stored

pub returns-in_default-clause-index : goal.returns-in_default-clause-index
returns-in_default-clause-index c =
    advanced_there (get same_pairs c.args.index.now) c.args.slots.now c.args.place c.args.advance.now
    (get_or c.args.slots.now c.args.place c.index-slots-place.result) c.advance_slot.new.slot c.requires.index
    (get_or_default c.args.slots.now c.args.place None c.index-slots-place.result c.requires.within)
    (ap (option_map (λ stored. stored.id)) (sym c.in_default.is) ∙ c.advance_slot.ensures.erased)
    c.advance_slot.ensures.stored
