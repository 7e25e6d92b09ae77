-- The phase that callers see.
use Rattle.quota_bucket.specs.declared.timed_phase.TimedPhase.{TimedPhase}
use Rattle.quota_bucket.specs.declared.timed_phase.TimedPhase.TheVariants.{Gone, Unassigned, Live, Expired}
use Rattle.quota_buckets.specs.declared.phase.Phase.{Phase}
use Rattle.quota_buckets.specs.declared.phase.Phase.TheVariants.{None as NoPhase, NoAssignment, Live as InLive, Expired as InExpired}

-- the phase without its moments but the beginning of its effect
abbrev pub phase_of : TimedPhase → Phase
phase_of Gone = NoPhase
phase_of (Unassigned effect) = NoAssignment
phase_of (Live strategy effect expiry) = InLive strategy effect
phase_of (Expired strategy effect since) = InExpired strategy effect
