use Rattle.std.proofs.Common.{◌∙◌, ap}
use Rattle.quota_buckets.specs.Streams.{new_stream}
use Rattle.quota_buckets.specs.Calls.{stream_of}
use Rattle.quota_buckets.specs.declared.call.Call.TheVariants.{SetUp}
use Rattle.quota_buckets.proofs.Holding.{call_more, up_held}
use Rattle.quota_buckets.proofs.buckets.Buckets.set_up.Goals as goal

pub invariant_of-self : goal.invariant_of-self
invariant_of-self c =
    let s = stream_of c.self.inside.settings c.self.inside.calls.items in
    rw (c.and-self-inside.ensures, call_more (new_stream c.self.inside.settings) c.self.inside.calls.items (SetUp c.args.up) c.sorted-no_pairs.result)
    (up_held c.self.inside.settings c.self.inside.up c.args.up c.self.inside.table s c.self.invariant)

pub returns : goal.returns
returns c =
    rw (← c.self.view_is) (ap (stream_of c.self.inside.settings) c.and-self-inside.ensures
    ∙ call_more (new_stream c.self.inside.settings) c.self.inside.calls.items (SetUp c.args.up) c.sorted-no_pairs.result)
