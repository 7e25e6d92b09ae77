use Rattle.std.proofs.Common.{◌∙◌, ap, sym, arith}
use Rattle.std.specs.HashMap.{get}
use Rattle.quota_settings.specs.Pairs.{same_pairs}
use Rattle.quota_buckets.specs.Tables.{slot_phase}
use Rattle.quota_buckets.proofs.Indexing.{found_place, found_none}
use Rattle.quota_buckets.proofs.Tabling.{place_holds, none_holds, read_place, not_empty}
use Rattle.quota_buckets.proofs.table.Table.phase.Goals as goal

pub returns-in_default : goal.returns-in_default
returns-in_default c =
    rw (← c.self.view_is) (ap slot_phase (none_holds c.args.id.now c.self.inside.slots.items
    (found_none (get same_pairs c.self.inside.index) c.self.inside.slots.items c.args.id.now c.self.invariant.indexed
    (sym (c.in_default.ensures ∙ c.get.ensures.value)))))

pub index-requires : goal.index-requires
index-requires c =
    let here = found_place (get same_pairs c.self.inside.index) c.self.inside.slots.items c.args.id.now c.in-Some.place c.self.invariant.indexed
    (sym (c.in-Some.ensures ∙ c.get.ensures.value)) in
    omega (arith, here.within)

pub returns-in-Some-index : goal.returns-in-Some-index
returns-in-Some-index c =
    let read = read_place (get same_pairs c.self.inside.index) c.self.inside.slots.items c.args.id.now c.in-Some.place c.index.result.now
    c.self.invariant.indexed (c.in-Some.ensures ∙ c.get.ensures.value) c.index.ensures in
    rw (← c.self.view_is) (c.phase.ensures ∙ ap slot_phase (sym c.in-Some-index.is ∙ sym read.at
    ∙ place_holds c.args.id.now c.self.inside.slots.items c.in-Some.place read.here))

pub returns-in-None : goal.returns-in-None
returns-in-None c =
    let read = read_place (get same_pairs c.self.inside.index) c.self.inside.slots.items c.args.id.now c.in-Some.place c.index.result.now
    c.self.invariant.indexed (c.in-Some.ensures ∙ c.get.ensures.value) c.index.ensures in
    absurd (not_empty c.args.id.now c.in-Some.place c.index.result.now c.self.inside.slots.items read c.in-None.is)
