use Rattle.std.proofs.Common.{◌∙◌, List, ap, sym, arith, option_map}
use Rattle.std.specs.HashMap.{get}
use Rattle.quota_settings.specs.Pairs.{same_pairs}
use Rattle.quota_bucket.specs.QuietLaws.{asked_due}
use Rattle.quota_buckets.specs.Tables.{Stored, Table, stored_asked, stored_answer}
use Rattle.quota_buckets.proofs.Indexing.{found_place, found_none}
use Rattle.quota_buckets.proofs.Steps.{asked_there}
use Rattle.quota_buckets.proofs.Tabling.{changed_table, waiting_table, stored_same, none_holds, stored_at, told_at, read_place, not_empty}
use Rattle.quota_buckets.proofs.table.Table.ask.Goals as goal

pub returns-in_err-place-clause-stored : goal.returns-in_err-place-clause-stored
returns-in_err-place-clause-stored c =
    let make : List Stored → Table = λ stored. record { time = c.self.inside.time; stored = stored } in
    rw (← c.self.view_is) (ap make (stored_same c.args.id.now (stored_asked c.self.inside.time c.args.up) c.self.inside.slots.items
    (found_none (get same_pairs c.self.inside.index) c.self.inside.slots.items c.args.id.now c.self.invariant.indexed
    (sym (c.in_err-place.ensures ∙ c.get.ensures.value)))))

pub returns-in_err-place-clause-answer : goal.returns-in_err-place-clause-answer
returns-in_err-place-clause-answer c =
    rw (← c.self.view_is) (c.from_residual.ensures ∙ ap (option_map (stored_answer c.self.inside.time c.args.up))
    (none_holds c.args.id.now c.self.inside.slots.items
    (found_none (get same_pairs c.self.inside.index) c.self.inside.slots.items c.args.id.now c.self.invariant.indexed
    (sym (c.in_err-place.ensures ∙ c.get.ensures.value)))))

pub index_mut-requires : goal.index_mut-requires
index_mut-requires c =
    let here = found_place (get same_pairs c.self.inside.index) c.self.inside.slots.items c.args.id.now c.in_ok-place.place c.self.invariant.indexed
    (sym (c.in_ok-place.ensures ∙ c.get.ensures.value)) in
    omega (arith, here.within)

pub returns-in_default-clause-stored : goal.returns-in_default-clause-stored
returns-in_default-clause-stored c =
    let read = read_place (get same_pairs c.self.inside.index) c.self.inside.slots.items c.args.id.now c.in_ok-place.place c.index_mut.result.now
    c.self.invariant.indexed (c.in_ok-place.ensures ∙ c.get.ensures.value) c.index_mut.ensures.value in
    absurd (not_empty c.args.id.now c.in_ok-place.place c.index_mut.result.now c.self.inside.slots.items read c.in_default.is)

pub returns-in_default-clause-answer : goal.returns-in_default-clause-answer
returns-in_default-clause-answer c =
    let read = read_place (get same_pairs c.self.inside.index) c.self.inside.slots.items c.args.id.now c.in_ok-place.place c.index_mut.result.now
    c.self.invariant.indexed (c.in_ok-place.ensures ∙ c.get.ensures.value) c.index_mut.ensures.value in
    absurd (not_empty c.args.id.now c.in_ok-place.place c.index_mut.result.now c.self.inside.slots.items read c.in_default.is)

pub set-requires : goal.set-requires
set-requires c =
    let read = read_place (get same_pairs c.self.inside.index) c.self.inside.slots.items c.args.id.now c.in_ok-place.place c.index_mut.result.now
    c.self.invariant.indexed (c.in_ok-place.ensures ∙ c.get.ensures.value) c.index_mut.ensures.value in
    omega (arith, read.here.within, c.self.invariant.planned.room)

pub invariant_of-self-then-waited : goal.invariant_of-self-then-waited
invariant_of-self-then-waited c =
    let read = read_place (get same_pairs c.self.inside.index) c.self.inside.slots.items c.args.id.now c.in_ok-place.place c.index_mut.result.now
    c.self.invariant.indexed (c.in_ok-place.ensures ∙ c.get.ensures.value) c.index_mut.ensures.value in
    let there = c.self.invariant.indexed.there c.in_ok-place.place c.in-Some.bucket (read.at ∙ c.in-Some.is) in
    waiting_table c.self.inside.time c.self.inside.agenda (get same_pairs c.self.inside.index) c.self.inside.slots.items
    c.in_ok-place.place c.in-Some.bucket c.ask-allowed.new.self c.self.invariant (read.at ∙ c.in-Some.is)
    (ap (λ (s : Stored). s.id) c.ask-allowed.ensures.stored) (rw c.ask-allowed.ensures.stored (asked_there c.self.inside.time c.args.up c.in-Some.bucket))
    (rw c.ask-allowed.ensures.stored (asked_due c.in-Some.bucket.rules c.self.inside.time c.args.up c.in-Some.bucket.state there
    (sym c.waits-waited.ensures ∙ c.if-waited.true) c.self.inside.time))

pub invariant_of-self-2 : goal.invariant_of-self-2
invariant_of-self-2 c =
    let read = read_place (get same_pairs c.self.inside.index) c.self.inside.slots.items c.args.id.now c.in_ok-place.place c.index_mut.result.now
    c.self.invariant.indexed (c.in_ok-place.ensures ∙ c.get.ensures.value) c.index_mut.ensures.value in
    rw c.set.ensures (changed_table c.self.inside.time c.self.inside.agenda (get same_pairs c.self.inside.index) c.self.inside.slots.items
    c.in_ok-place.place c.due-due.result c.in-Some.bucket c.ask-allowed.new.self c.self.invariant (read.at ∙ c.in-Some.is)
    (ap (λ (s : Stored). s.id) c.ask-allowed.ensures.stored) (rw c.ask-allowed.ensures.stored (asked_there c.self.inside.time c.args.up c.in-Some.bucket)) c.due-due.ensures)

pub returns-then-waited-clause-stored : goal.returns-then-waited-clause-stored
returns-then-waited-clause-stored c =
    let make : List Stored → Table = λ stored. record { time = c.self.inside.time; stored = stored } in
    let read = read_place (get same_pairs c.self.inside.index) c.self.inside.slots.items c.args.id.now c.in_ok-place.place c.index_mut.result.now
    c.self.invariant.indexed (c.in_ok-place.ensures ∙ c.get.ensures.value) c.index_mut.ensures.value in
    rw (← c.self.view_is) (ap make (stored_at c.args.id.now (stored_asked c.self.inside.time c.args.up) c.self.inside.slots.items c.in_ok-place.place
    c.in-Some.bucket c.ask-allowed.new.self read.here (read.at ∙ c.in-Some.is) c.ask-allowed.ensures.stored))

pub returns-then-waited-clause-answer : goal.returns-then-waited-clause-answer
returns-then-waited-clause-answer c =
    let read = read_place (get same_pairs c.self.inside.index) c.self.inside.slots.items c.args.id.now c.in_ok-place.place c.index_mut.result.now
    c.self.invariant.indexed (c.in_ok-place.ensures ∙ c.get.ensures.value) c.index_mut.ensures.value in
    rw (← c.self.view_is) (told_at c.args.id.now (stored_answer c.self.inside.time c.args.up) c.self.inside.slots.items c.in_ok-place.place
    c.in-Some.bucket c.ask-allowed.result read.here (read.at ∙ c.in-Some.is) c.ask-allowed.ensures.answer)

pub returns-clause-stored : goal.returns-clause-stored
returns-clause-stored c =
    let make : List Stored → Table = λ stored. record { time = c.self.inside.time; stored = stored } in
    let read = read_place (get same_pairs c.self.inside.index) c.self.inside.slots.items c.args.id.now c.in_ok-place.place c.index_mut.result.now
    c.self.invariant.indexed (c.in_ok-place.ensures ∙ c.get.ensures.value) c.index_mut.ensures.value in
    rw (← c.self.view_is) (ap make (stored_at c.args.id.now (stored_asked c.self.inside.time c.args.up) c.self.inside.slots.items c.in_ok-place.place
    c.in-Some.bucket c.ask-allowed.new.self read.here (read.at ∙ c.in-Some.is) c.ask-allowed.ensures.stored))

pub returns-clause-answer : goal.returns-clause-answer
returns-clause-answer c =
    let read = read_place (get same_pairs c.self.inside.index) c.self.inside.slots.items c.args.id.now c.in_ok-place.place c.index_mut.result.now
    c.self.invariant.indexed (c.in_ok-place.ensures ∙ c.get.ensures.value) c.index_mut.ensures.value in
    rw (← c.self.view_is) (told_at c.args.id.now (stored_answer c.self.inside.time c.args.up) c.self.inside.slots.items c.in_ok-place.place
    c.in-Some.bucket c.ask-allowed.result read.here (read.at ∙ c.in-Some.is) c.ask-allowed.ensures.answer)
