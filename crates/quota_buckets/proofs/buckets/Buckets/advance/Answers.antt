use Rattle.std.proofs.Common.{◌∙◌, ap, arith}
use Rattle.quota_buckets.specs.Streams.{new_stream}
use Rattle.quota_buckets.specs.Calls.{stream_of}
use Rattle.quota_buckets.specs.declared.call.Call.TheVariants.{Advance}
use Rattle.quota_buckets.proofs.Holding.{call_more, advance_held, advance_sent}
use Rattle.quota_buckets.proofs.buckets.Buckets.advance.Goals as goal

pub advance-requires : goal.advance-requires
advance-requires c = omega arith

pub invariant_of-self : goal.invariant_of-self
invariant_of-self c = rw c.in_default.ensures.err c.self.invariant

pub invariant_of-self-2 : goal.invariant_of-self-2
invariant_of-self-2 c =
    let s = stream_of c.self.inside.settings c.self.inside.calls.items in
    rw (c.and-self-inside.ensures, call_more (new_stream c.self.inside.settings) c.self.inside.calls.items (Advance c.args.at) c.sorted-no_pairs.result)
    (advance_held c.self.inside.settings c.self.inside.up c.self.inside.table c.advance.new.self s c.args.at c.self.invariant (omega arith) c.in-Ok.ensures.advanced)

pub returns-clause-advanced : goal.returns-clause-advanced
returns-clause-advanced c =
    rw (← c.self.view_is) (ap (stream_of c.self.inside.settings) c.and-self-inside.ensures
    ∙ call_more (new_stream c.self.inside.settings) c.self.inside.calls.items (Advance c.args.at) c.sorted-no_pairs.result)

pub returns-clause-reports : goal.returns-clause-reports
returns-clause-reports c =
    let s = stream_of c.self.inside.settings c.self.inside.calls.items in
    rw (← c.self.view_is) (c.in-Ok.ensures.reports ∙ advance_sent c.self.inside.settings c.self.inside.up c.self.inside.table s c.args.at c.self.invariant)
