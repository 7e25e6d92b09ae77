use Rattle.std.proofs.Common.{◌≡◌, None, arith, ◌∙◌, sym, length, refl, ap, get_or}
use Rattle.std.proofs.Math.ListN.{set}
use Rattle.quota_buckets.specs.Tables.{slot_due, slot_at}
use Rattle.quota_buckets.proofs.Advancing.{each_step, each_within}
use Rattle.quota_buckets.proofs.Steps.{read_at}
use Rattle.quota_buckets.proofs.slots.plan_each.Goals as goal

pub set-requires : goal.set-requires
set-requires c =
    each_within (λ place _. slot_due c.args.time (slot_at c.args.slots.now place)) None c.args.agenda.now c.loop-place.agenda c.args.places.now
    c.loop-place.place-index (length c.args.agenda.now) c.loop-place.invariant refl
    (λ k d lt. (let within = c.requires.slots k d lt in omega (arith, c.requires.room))) (omega arith)

pub loop-place-preserved : goal.loop-place-preserved
loop-place-preserved c =
    let place = get_or c.args.places.now c.loop-place.place-index 0 in
    let read : slot_at c.args.slots.now place ≡ c.index-slots-place.result =
    read_at c.args.slots.now place c.index-slots-place.result (c.requires.slots c.loop-place.place-index 0 (omega arith)) c.index-slots-place.is in
    each_step (λ place _. slot_due c.args.time (slot_at c.args.slots.now place)) None c.args.agenda.now c.loop-place.agenda c.set.new.self
    c.args.places.now c.loop-place.place-index (omega arith) c.loop-place.invariant
    (c.set.ensures ∙ ap (set c.loop-place.agenda place) (c.due_of.ensures ∙ ap (slot_due c.args.time) (sym read)))
