use Rattle.std.proofs.Common.{◌∙◌}
use Rattle.quota_buckets.specs.Calls.{stream_of}
use Rattle.quota_buckets.proofs.Holding.{phase_told, allowance_held}
use Rattle.quota_buckets.proofs.buckets.Buckets.phase.Goals as goal

pub returns-clause-phase : goal.returns-clause-phase
returns-clause-phase c =
    let s = stream_of c.self.inside.settings c.self.inside.calls.items in
    rw (← c.self.view_is) (c.phase.ensures ∙ phase_told c.self.inside.settings c.self.inside.up c.self.inside.table s c.args.id.now c.self.invariant)

pub returns-clause-allowance : goal.returns-clause-allowance
returns-clause-allowance c =
    let s = stream_of c.self.inside.settings c.self.inside.calls.items in
    rw (← c.self.view_is) (allowance_held c.self.inside.settings c.self.inside.up c.self.inside.table s c.self.invariant)
