use Rattle.std.proofs.Common.{List, None, ap, sym, refl, arith, is_some}
use Rattle.std.specs.HashMap.{get}
use Rattle.quota_settings.specs.Pairs.{same_pairs}
use Rattle.std.proofs.Math.ListN.{set}
use Rattle.quota_buckets.specs.Tables.{Stored, Table}
use Rattle.quota_buckets.proofs.Indexing.{found_place, found_none}
use Rattle.quota_buckets.proofs.Tabling.{erased_table, stored_erased, stored_left, some_holds, none_holds}
use Rattle.quota_buckets.proofs.table.Table.abandon.Goals as goal

pub returns-in_default-clause-stored : goal.returns-in_default-clause-stored
returns-in_default-clause-stored c =
    let make : List Stored → Table = λ stored. record { time = c.self.inside.time; stored = stored } in
    rw (← c.self.view_is) (ap make (stored_left c.args.id.now c.self.inside.slots.items
    (found_none (get same_pairs c.self.inside.index) c.self.inside.slots.items c.args.id.now c.self.invariant.indexed (sym c.in_default.ensures.value))))

pub returns-in_default-clause-answer : goal.returns-in_default-clause-answer
returns-in_default-clause-answer c =
    rw (← c.self.view_is) (ap is_some (none_holds c.args.id.now c.self.inside.slots.items
    (found_none (get same_pairs c.self.inside.index) c.self.inside.slots.items c.args.id.now c.self.invariant.indexed (sym c.in_default.ensures.value))))

pub index_mut-requires : goal.index_mut-requires
index_mut-requires c =
    let here = found_place (get same_pairs c.self.inside.index) c.self.inside.slots.items c.args.id.now c.in-Some.place c.self.invariant.indexed
    (sym c.in-Some.ensures.value) in
    omega (arith, here.within)

pub set-requires : goal.set-requires
set-requires c =
    let here = found_place (get same_pairs c.self.inside.index) c.self.inside.slots.items c.args.id.now c.in-Some.place c.self.invariant.indexed
    (sym c.in-Some.ensures.value) in
    omega (arith, here.within, c.self.invariant.planned.room)

pub invariant_of-self-2 : goal.invariant_of-self-2
invariant_of-self-2 c =
    rw c.set.ensures (erased_table c.self.inside.time c.self.inside.agenda (get same_pairs c.self.inside.index) (get same_pairs c.remove.new.self)
    c.self.inside.slots.items c.args.id.now c.in-Some.place c.self.invariant (sym c.in-Some.ensures.value) (λ q. c.in-Some.ensures.updates.0 q))

pub returns-clause-stored : goal.returns-clause-stored
returns-clause-stored c =
    let make : List Stored → Table = λ stored. record { time = c.self.inside.time; stored = stored } in
    let here = found_place (get same_pairs c.self.inside.index) c.self.inside.slots.items c.args.id.now c.in-Some.place c.self.invariant.indexed
    (sym c.in-Some.ensures.value) in
    rw (← c.self.view_is) (ap make (stored_erased c.args.id.now c.self.inside.slots.items (set c.self.inside.slots.items c.in-Some.place None)
    c.in-Some.place here refl))

pub returns-clause-answer : goal.returns-clause-answer
returns-clause-answer c =
    let here = found_place (get same_pairs c.self.inside.index) c.self.inside.slots.items c.args.id.now c.in-Some.place c.self.invariant.indexed
    (sym c.in-Some.ensures.value) in
    rw (← c.self.view_is) (some_holds c.args.id.now c.self.inside.slots.items c.in-Some.place here)
