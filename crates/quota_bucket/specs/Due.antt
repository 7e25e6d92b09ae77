-- When a bucket next wants work: until then an advance changes nothing that is kept of it.
use Rattle.std.specs.Prelude.{◌≡◌, ℕ, ◌+◌, ◌^◌, nat_lt, if◌then◌else◌, Some, None, Option, option_map}
use Rattle.agenda.specs.Reached.{earlier}
use Rattle.quota_bucket.specs.Reports.{next_report}
use Rattle.quota_bucket.specs.Machine.{is_waiting, advanced, advance_report}
use Rattle.quota_bucket.specs.declared.bucket_state.Advance.{Advance}
use Rattle.quota_bucket.specs.declared.rules.BucketRules.{BucketRules}
use Rattle.quota_bucket.specs.declared.bucket_state.BucketState.{BucketState}
use Rattle.quota_bucket.specs.declared.timed_phase.TimedPhase.{TimedPhase}
use Rattle.quota_bucket.specs.declared.timed_phase.TimedPhase.TheVariants.{Live, Expired}

-- a moment, where 64 bits hold it: no later one is ever reached
abbrev pub reachable : ℕ → Option ℕ
reachable moment = if nat_lt moment (2 ^ 64) then Some moment else None

-- the end of an expired behaviour, if it ends by itself
abbrev pub timeout_due : ℕ → Option ℕ → Option ℕ
timeout_due since timeout = option_map (λ span. since + span) timeout

-- when the phase changes by itself, if it does
abbrev pub phase_due : BucketRules → TimedPhase → Option ℕ
phase_due rules (Live strategy effect expiry) = expiry
phase_due rules (Expired strategy effect since) = timeout_due since rules.timeout
phase_due rules _ = None

-- the next moment for a report, where a request waits for one
abbrev pub report_due : BucketRules → BucketState → ℕ → Option ℕ
report_due rules state time =
    if is_waiting state then reachable (next_report state.first rules.reporting.value time) else None

-- the first moment at which an advance changes something, if there is one
abbrev pub due : BucketRules → BucketState → ℕ → Option ℕ
due rules state time = earlier (phase_due rules state.phase) (report_due rules state time)

-- an advance leaves a state as it is and sends no report of it
pub record IsQuiet (rules : BucketRules) (state : BucketState) (advance : Advance) : Type 0 where
  pub same : advanced rules advance state ≡ state
  pub silent : advance_report rules advance state ≡ None
