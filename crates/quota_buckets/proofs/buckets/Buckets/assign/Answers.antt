use Rattle.std.proofs.Common.{◌≡◌, ◌∙◌, ap, refl, option_map}
use Rattle.quota_bucket.specs.History.{phase_after, begins_by_assignment}
use Rattle.quota_buckets.specs.Streams.{new_stream, assigned_as, or_no_bucket, bucket_of}
use Rattle.quota_buckets.specs.Calls.{stream_of}
use Rattle.quota_buckets.proofs.Holding.{call_more, assign_held, assign_told, ok_or_no_bucket, no_bucket_exactly}
use Rattle.quota_buckets.proofs.Unchanged.{assign_unchanged}
use Rattle.quota_buckets.proofs.buckets.Buckets.assign.Goals as goal

pub invariant_of-self : goal.invariant_of-self
invariant_of-self c =
    let s = stream_of c.self.inside.settings c.self.inside.calls.items in
    rw (
      c.and-self-inside.ensures,
      call_more (new_stream c.self.inside.settings) c.self.inside.calls.items c.assign-call.result c.pairs.result.now,
      c.pairs.ensures,
      c.assign-call.ensures,
    )
    (assign_held c.self.inside.settings c.self.inside.up c.self.inside.table c.assign-assigned.new.self s c.args.id.now c.args.lifetime c.args.strategy
    c.self.invariant c.assign-assigned.ensures.stored)

pub returns-clause-assigned : goal.returns-clause-assigned
returns-clause-assigned c =
    rw (← c.self.view_is) (ap (stream_of c.self.inside.settings) c.and-self-inside.ensures
    ∙ call_more (new_stream c.self.inside.settings) c.self.inside.calls.items c.assign-call.result c.pairs.result.now ∙ rw (c.pairs.ensures, c.assign-call.ensures) refl)

pub returns-clause-answer : goal.returns-clause-answer
returns-clause-answer c =
    let s = stream_of c.self.inside.settings c.self.inside.calls.items in
    rw (← c.self.view_is) (c.ok_or.ensures.value ∙ ok_or_no_bucket c.assign-assigned.result ∙ ap or_no_bucket (c.assign-assigned.ensures.answer
    ∙ assign_told c.self.inside.settings c.self.inside.up c.self.inside.table s c.args.id.now c.args.strategy c.self.invariant))

pub returns-clause-none : goal.returns-clause-none
returns-clause-none c =
    let s = stream_of c.self.inside.settings c.self.inside.calls.items in
    let told : c.ok_or.result ≡ or_no_bucket (option_map (λ p. assigned_as (begins_by_assignment (phase_after p.rules p.history) c.args.strategy)) (bucket_of c.args.id.now s)) =
    c.ok_or.ensures.value ∙ ok_or_no_bucket c.assign-assigned.result ∙ ap or_no_bucket (c.assign-assigned.ensures.answer
    ∙ assign_told c.self.inside.settings c.self.inside.up c.self.inside.table s c.args.id.now c.args.strategy c.self.invariant) in
    rw (← c.self.view_is, told) (no_bucket_exactly (λ p. assigned_as (begins_by_assignment (phase_after p.rules p.history) c.args.strategy))
    c.self.inside.settings c.self.inside.up c.self.inside.table s c.args.id.now c.self.invariant)

pub returns-clause-err : goal.returns-clause-err
returns-clause-err c =
    assign_unchanged c.args.id.now c.args.lifetime c.args.strategy _ _ c.ok_or.result (returns-clause-assigned c) (returns-clause-answer c)
