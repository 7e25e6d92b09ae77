use Rattle.std.proofs.Common.{◌≡◌, ℕ, ◌∙◌, ◌≤◌, ◌<◌, ◌^◌, ◌++◌, List, Option, None, ap, refl, arith, length, take, drop}
use Rattle.std.proofs.lemmas.Grind.{common_steps}
use Rattle.agenda.specs.Reached.{reached}
use Rattle.quota_bucket.specs.declared.bucket_state.Advance.{Advance}
use Rattle.quota_buckets.specs.Sending.{by_moment}
use Rattle.quota_buckets.specs.Tables.{Stored, Table, held, AllWithin, slot_advanced, slot_due, slot_at, each_set, reports_at}
use Rattle.quota_buckets.proofs.Advancing.{table_after, agenda_after, reports_after, places_within, length-each_set, written}
use Rattle.quota_buckets.proofs.table.Table.advance.Goals as goal

pub reports_of-requires : goal.reports_of-requires
reports_of-requires c =
    let advance : Advance = record { from = c.self.inside.time; to = c.args.to; up = c.args.up } in
    let found : c.deref-2.result.now ≡ reached c.args.to c.self.inside.agenda = c.deref-2.ensures.value ∙ c.in_ok-places.ensures ∙ rw c.get.ensures.value refl in
    rw c.deref.ensures.value
    (places_within advance c.self.inside.agenda c.deref-2.result.now c.self.inside.slots.items c.self.invariant.planned found)

pub advance_each-requires-clause-within : goal.advance_each-requires-clause-within
advance_each-requires-clause-within c =
    let advance : Advance = record { from = c.self.inside.time; to = c.args.to; up = c.args.up } in
    let found : c.deref-3.result.now ≡ reached c.args.to c.self.inside.agenda = c.deref-3.ensures.value ∙ c.in_ok-places.ensures ∙ rw c.get.ensures.value refl in
    rw c.deref_mut.ensures.value
    (places_within advance c.self.inside.agenda c.deref-3.result.now c.self.inside.slots.items c.self.invariant.planned found)

pub plan_each-requires-clause-slots : goal.plan_each-requires-clause-slots
plan_each-requires-clause-slots c =
    let advance : Advance = record { from = c.self.inside.time; to = c.args.to; up = c.args.up } in
    let agenda = c.self.inside.agenda in
    let slots = c.self.inside.slots.items in
    let found : c.deref-3.result.now ≡ reached c.args.to agenda = c.deref-3.ensures.value ∙ c.in_ok-places.ensures ∙ rw c.get.ensures.value refl in
    let later : c.advance_each.new.slots ≡ each_set (λ place. slot_advanced advance) None slots (reached c.args.to agenda) =
    c.advance_each.ensures.slots ∙ rw (c.deref_mut.ensures.value, found) refl in
    let size : length c.advance_each.new.slots ≡ length slots =
    ap length later ∙ length-each_set (λ place. slot_advanced advance) None slots (reached c.args.to agenda) in
    let count : c.self.inside.slots.len ≡ length slots = grind (arith, common_steps) in
    let whole : take c.self.inside.slots.len (c.advance_each.new.slots ++ drop (length c.advance_each.new.slots) slots) ≡ c.advance_each.new.slots =
    written c.self.inside.slots.len c.advance_each.new.slots slots size count in
    let same : length c.deref-4.result.now ≡ length slots = ap length (c.deref-4.ensures.value ∙ whole) ∙ size in
    let found_again : c.deref-5.result.now ≡ reached c.args.to agenda = c.deref-5.ensures.value ∙ c.in_ok-places.ensures ∙ rw c.get.ensures.value refl in
    let within : AllWithin (length slots) c.deref-5.result.now =
    places_within advance agenda c.deref-5.result.now slots c.self.invariant.planned found_again in
    λ k d lt. (let h = within k d lt in omega (arith, same))

pub invariant_of-self : goal.invariant_of-self
invariant_of-self c =
    let advance : Advance = record { from = c.self.inside.time; to = c.args.to; up = c.args.up } in
    let bound : c.args.to < 2 ^ 64 = omega arith in
    let le : c.self.inside.time ≤ c.args.to = rw (← c.self.view_is) at c.requires in
    let agenda = c.self.inside.agenda in
    let slots = c.self.inside.slots.items in
    let found : c.deref-3.result.now ≡ reached c.args.to agenda = c.deref-3.ensures.value ∙ c.in_ok-places.ensures ∙ rw c.get.ensures.value refl in
    let later : c.advance_each.new.slots ≡ each_set (λ place. slot_advanced advance) None slots (reached c.args.to agenda) =
    c.advance_each.ensures.slots ∙ rw (c.deref_mut.ensures.value, found) refl in
    let size : length c.advance_each.new.slots ≡ length slots =
    ap length later ∙ length-each_set (λ place. slot_advanced advance) None slots (reached c.args.to agenda) in
    let count : c.self.inside.slots.len ≡ length slots = grind (arith, common_steps) in
    let whole : take c.self.inside.slots.len (c.advance_each.new.slots ++ drop (length c.advance_each.new.slots) slots) ≡ c.advance_each.new.slots =
    written c.self.inside.slots.len c.advance_each.new.slots slots size count in
    let found_again : c.deref-5.result.now ≡ reached c.args.to agenda = c.deref-5.ensures.value ∙ c.in_ok-places.ensures ∙ rw c.get.ensures.value refl in
    let set_at : List (Option Stored) → List ℕ → List (Option ℕ) =
    λ xs places. each_set (λ place _. slot_due c.args.to (slot_at xs place)) None agenda places in
    let planned : c.plan_each.new.agenda ≡ set_at c.advance_each.new.slots (reached c.args.to agenda) =
    c.plan_each.ensures ∙ ap (λ xs. set_at xs c.deref-5.result.now) (c.deref-4.ensures.value ∙ whole) ∙ ap (set_at c.advance_each.new.slots) found_again in
    rw whole (record {
      indexed = c.advance_each.ensures.index;
      planned = agenda_after advance agenda c.plan_each.new.agenda slots c.advance_each.new.slots le bound c.self.invariant.indexed.there
          c.self.invariant.planned later planned;
    })

pub returns-clause-advanced : goal.returns-clause-advanced
returns-clause-advanced c =
    let advance : Advance = record { from = c.self.inside.time; to = c.args.to; up = c.args.up } in
    let bound : c.args.to < 2 ^ 64 = omega arith in
    let le : c.self.inside.time ≤ c.args.to = rw (← c.self.view_is) at c.requires in
    let agenda = c.self.inside.agenda in
    let slots = c.self.inside.slots.items in
    let found : c.deref-3.result.now ≡ reached c.args.to agenda = c.deref-3.ensures.value ∙ c.in_ok-places.ensures ∙ rw c.get.ensures.value refl in
    let later : c.advance_each.new.slots ≡ each_set (λ place. slot_advanced advance) None slots (reached c.args.to agenda) =
    c.advance_each.ensures.slots ∙ rw (c.deref_mut.ensures.value, found) refl in
    let size : length c.advance_each.new.slots ≡ length slots =
    ap length later ∙ length-each_set (λ place. slot_advanced advance) None slots (reached c.args.to agenda) in
    let count : c.self.inside.slots.len ≡ length slots = grind (arith, common_steps) in
    let whole : take c.self.inside.slots.len (c.advance_each.new.slots ++ drop (length c.advance_each.new.slots) slots) ≡ c.advance_each.new.slots =
    written c.self.inside.slots.len c.advance_each.new.slots slots size count in
    let make : List Stored → Table = λ stored. record { time = c.args.to; stored = stored } in
    rw (← c.self.view_is) (ap make (ap held whole ∙ table_after advance agenda slots c.advance_each.new.slots le bound
    c.self.invariant.indexed.there c.self.invariant.planned later))

pub returns-clause-reports : goal.returns-clause-reports
returns-clause-reports c =
    let advance : Advance = record { from = c.self.inside.time; to = c.args.to; up = c.args.up } in
    let bound : c.args.to < 2 ^ 64 = omega arith in
    let le : c.self.inside.time ≤ c.args.to = rw (← c.self.view_is) at c.requires in
    let found : c.deref-2.result.now ≡ reached c.args.to c.self.inside.agenda = c.deref-2.ensures.value ∙ c.in_ok-places.ensures ∙ rw c.get.ensures.value refl in
    let sent : c.in_ok-reports.reports.items ≡ reports_at advance c.self.inside.slots.items c.deref-2.result.now =
    c.in_ok-reports.ensures ∙ rw c.deref.ensures.value refl in
    rw (← c.self.view_is) (c.of.ensures ∙ c.in_ok-order.ensures ∙ ap by_moment (sent
    ∙ reports_after advance c.self.inside.agenda c.deref-2.result.now c.self.inside.slots.items le bound c.self.invariant.indexed.there c.self.invariant.planned found))
