use Rattle.std.proofs.Common.{◌≡◌, ◌∙◌, ap, refl, is_some}
use Rattle.quota_buckets.specs.Streams.{new_stream, bucket_of}
use Rattle.quota_buckets.specs.Calls.{stream_of}
use Rattle.quota_buckets.specs.declared.call.Call.TheVariants.{Abandon}
use Rattle.quota_buckets.proofs.Holding.{call_more, abandon_held, there_told, phase_none}
use Rattle.quota_buckets.proofs.Unchanged.{abandon_unchanged}
use Rattle.quota_buckets.proofs.buckets.Buckets.abandon.Goals as goal

pub invariant_of-self : goal.invariant_of-self
invariant_of-self c =
    let s = stream_of c.self.inside.settings c.self.inside.calls.items in
    rw (c.and-self-inside.ensures, call_more (new_stream c.self.inside.settings) c.self.inside.calls.items Abandon c.pairs.result.now, c.pairs.ensures)
    (abandon_held c.self.inside.settings c.self.inside.up c.self.inside.table c.abandon-was_there.new.self s c.args.id.now c.self.invariant
    c.abandon-was_there.ensures.stored)

pub returns-clause-abandoned : goal.returns-clause-abandoned
returns-clause-abandoned c =
    rw (← c.self.view_is) (ap (stream_of c.self.inside.settings) c.and-self-inside.ensures
    ∙ call_more (new_stream c.self.inside.settings) c.self.inside.calls.items Abandon c.pairs.result.now ∙ rw c.pairs.ensures refl)

pub returns-clause-none : goal.returns-clause-none
returns-clause-none c =
    let s = stream_of c.self.inside.settings c.self.inside.calls.items in
    let told : c.abandon-was_there.result ≡ is_some (bucket_of c.args.id.now s) =
    c.abandon-was_there.ensures.answer ∙ there_told c.self.inside.settings c.self.inside.up c.self.inside.table s c.args.id.now c.self.invariant in
    let found = rw told at c.was_found.ensures in
    let phase = phase_none c.self.inside.settings c.self.inside.up c.self.inside.table s c.args.id.now c.self.invariant in
    rw (← c.self.view_is) (λ h. phase.0 (found.0 h), λ h. found.1 (phase.1 h))

pub returns-clause-err : goal.returns-clause-err
returns-clause-err c =
    let s = stream_of c.self.inside.settings c.self.inside.calls.items in
    let told : c.abandon-was_there.result ≡ is_some (bucket_of c.args.id.now s) =
    c.abandon-was_there.ensures.answer ∙ there_told c.self.inside.settings c.self.inside.up c.self.inside.table s c.args.id.now c.self.invariant in
    rw (← c.self.view_is) (abandon_unchanged c.args.id.now s _ c.abandon-was_there.result c.was_found.result (rw (← c.self.view_is) at (returns-clause-abandoned c))
    told c.was_found.ensures)
