-- The state that is kept of a history.
use Rattle.std.specs.Prelude.{◌≡◌, ℕ, Bool, not, List, ◌∷◌, Option, Some, None}
use Rattle.std.specs.Prelude.{count_by}
use Rattle.quota_bucket.specs.Strategies.{Decision, allowed_in, interval_at, fills_at, tokens_left, tokens_before, millis_of}
use Rattle.quota_bucket.specs.History.{Event, Request, is_allowed, phase_after, decided, in_force}
use Rattle.quota_bucket.specs.TimeOrder.{IsInOrder}
use Rattle.quota_bucket.specs.Reports.{report_of_request, unreported, first_at, last_report, shown}
use Rattle.quota_bucket.specs.declared.rules.BucketRules.{BucketRules}
use Rattle.quota_bucket.specs.declared.timed_phase.InForce.{InForce}
use Rattle.quota_bucket.specs.declared.timed_phase.TimedPhase.{TimedPhase}
use Rattle.quota_bucket.specs.declared.bucket_state.BucketState.{BucketState}
use Rattle.quota_bucket.specs.declared.bucket_state.Asked.{Asked}
use Rattle.quota_bucket.specs.declared.strategy.Strategy.{Strategy}
use Rattle.quota_bucket.specs.declared.strategy.Strategy.TheVariants.{PerUnit, TokenBucket}
use Rattle.quota_bucket.specs.declared.meter.Meter.{Meter}
use Rattle.quota_bucket.specs.declared.meter.Meter.TheVariants.{Fresh, Counted, Filled}

-- the meter after these requests, the latest first
abbrev pub meter_of : Strategy → ℕ → List Decision → Meter
meter_of (PerUnit count unit) effect (d ∷ ds) =
    Counted (interval_at (millis_of unit) effect d.at)
    (allowed_in (millis_of unit) effect (interval_at (millis_of unit) effect d.at) (d ∷ ds))
meter_of (TokenBucket max per_fill interval) effect (d ∷ ds) =
    Filled (fills_at interval effect d.at) (tokens_left (tokens_before max per_fill interval effect d.at ds) d.allowed)
meter_of _ effect _ = Fresh

-- the same by the strategy in force, where there is a bucket
abbrev pub meter_in : Option InForce → List Decision → Meter
meter_in None _ = Fresh
meter_in (Some force) requests = meter_of force.strategy force.effect requests

-- the state of a bucket, by its phase, the requests since its effect began and those since its last report
abbrev pub state_from : BucketRules → TimedPhase → List Decision → List Decision → ℕ → ℕ → BucketState
state_from rules phase requests waiting first reported = record {
  first = first;
  reported = reported;
  phase = phase;
  meter = meter_in (in_force rules phase) requests;
  allowed = shown (count_by (λ d. d.allowed) waiting);
  denied = shown (count_by (λ d. not d.allowed) waiting);
}

-- the state after a history
abbrev pub state_after : BucketRules → List Event → BucketState
state_after rules history =
    state_from rules (phase_after rules history) (decided rules history) (unreported rules history)
    (first_at rules history) (last_report rules history)

-- the answer to a request, the report that follows at once, and the state after it, by the whole history
abbrev pub asked_after : BucketRules → List Event → ℕ → Bool → Asked
asked_after rules history at up = record {
  allowed = is_allowed rules history at;
  report = report_of_request rules history at up;
  state = state_after rules (Request at up ∷ history);
}

-- the state is that of this history, which is in order of time
pub record IsStateOf (rules : BucketRules) (history : List Event) (state : BucketState) : Type 0 where
  pub is : state ≡ state_after rules history
  pub in_order : IsInOrder history
