use Rattle.std.proofs.Common.{◌≡◌, arith, ◌∙◌, ap, get_or}
use Rattle.std.proofs.lemmas.List.{take_all}
use Rattle.quota_buckets.specs.Tables.{slot_at, reports_at}
use Rattle.quota_buckets.proofs.Advancing.{reports_step}
use Rattle.quota_buckets.proofs.Steps.{read_at}
use Rattle.quota_buckets.proofs.slots.reports_of.Goals as goal

pub loop-place-preserved : goal.loop-place-preserved
loop-place-preserved c =
    let place = get_or c.args.places.now c.loop-place.place-index 0 in
    let read : slot_at c.args.slots.now place ≡ c.index-slots-place.result =
    read_at c.args.slots.now place c.index-slots-place.result (c.requires c.loop-place.place-index 0 (omega arith)) c.index-slots-place.is in
    reports_step c.args.advance.now c.args.slots.now c.args.places.now c.loop-place.place-index c.loop-place.reports.items
    c.report_of.new.reports.items (omega arith) c.loop-place.invariant (rw read c.in_ok-report_of.ensures)

pub returns : goal.returns
returns c =
    c.loop-place.invariant
    ∙ ap (reports_at c.args.advance.now c.args.slots.now) (take_all c.loop-place.place-index c.args.places.now (omega arith))
