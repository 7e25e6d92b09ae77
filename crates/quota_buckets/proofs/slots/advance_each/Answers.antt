use Rattle.std.proofs.Common.{arith, None, length, refl}
use Rattle.quota_buckets.specs.Tables.{slot_advanced}
use Rattle.quota_buckets.proofs.Advancing.{each_step, each_within}
use Rattle.quota_buckets.proofs.slots.advance_each.Goals as goal

pub advance_at-requires-clause-within : goal.advance_at-requires-clause-within
advance_at-requires-clause-within c =
    each_within (λ place. slot_advanced c.args.advance.now) None c.args.slots.now c.loop-place.slots c.args.places.now c.loop-place.place-index
    (length c.args.slots.now) c.loop-place.invariant.0 refl c.requires.within (omega arith)

pub loop-place-preserved : goal.loop-place-preserved
loop-place-preserved c = (
  each_step (λ place. slot_advanced c.args.advance.now) None c.args.slots.now c.loop-place.slots c.advance_at.new.slots c.args.places.now
      c.loop-place.place-index (omega arith) c.loop-place.invariant.0 c.advance_at.ensures.slots,
  c.advance_at.ensures.index,
)
