-- What each step makes of the state of a bucket.
use Rattle.std.specs.Prelude.{ℕ, ◌+◌, ◌-◌, ◌||◌, Bool, not, nat_lt, if◌then◌else◌, Some}
use Rattle.std.specs.Prelude.{None, Option, option_map}
use Rattle.quota_bucket.specs.History.{after_advance, after_request, after_assignment, begins_by_expiry, begins_by_assignment}
use Rattle.quota_bucket.specs.History.{force_for, is_gone}
use Rattle.quota_bucket.specs.Reports.{reported_by_advance, shown}
use Rattle.quota_bucket.specs.Meters.{judged}
use Rattle.quota_bucket.specs.declared.strategy.Strategy.{Strategy}
use Rattle.quota_bucket.specs.declared.rules.BucketRules.{BucketRules}
use Rattle.quota_bucket.specs.declared.timed_phase.TimedPhase.{TimedPhase}
use Rattle.quota_bucket.specs.declared.timed_phase.TimedPhase.TheVariants.{Gone}
use Rattle.quota_bucket.specs.declared.meter.Meter.{Meter}
use Rattle.quota_bucket.specs.declared.meter.Meter.TheVariants.{Fresh}
use Rattle.quota_bucket.specs.declared.bucket_state.BucketState.{BucketState}
use Rattle.quota_bucket.specs.declared.bucket_state.Usage.{Usage}
use Rattle.quota_bucket.specs.declared.bucket_state.Asked.{Asked}
use Rattle.quota_bucket.specs.declared.bucket_state.Advance.{Advance}

-- what is kept before the request that makes the bucket
abbrev pub new_state : ℕ → BucketState
new_state at = record { first = at; reported = at; phase = Gone; meter = Fresh; allowed = 0; denied = 0 }

-- whether a request was decided since the last report
abbrev pub is_waiting : BucketState → Bool
is_waiting state = nat_lt 0 state.allowed || nat_lt 0 state.denied

-- the moment of the report that an advance sends, by the state
abbrev pub report_moment : BucketRules → Advance → BucketState → Option ℕ
report_moment rules advance state =
    reported_by_advance rules state.phase state.first (is_waiting state) advance.from advance.up advance.to

-- the report that an advance sends, by the state
abbrev pub advance_report : BucketRules → Advance → BucketState → Option Usage
advance_report rules advance state =
    option_map (λ moment. record {
      at = moment;
      elapsed = moment - state.reported;
      allowed = state.allowed;
      denied = state.denied;
    }) (report_moment rules advance state)

-- the state with this phase and meter after a report, which begins new counts, or without one
abbrev pub after_report : Option ℕ → TimedPhase → Meter → BucketState → BucketState
after_report (Some moment) phase meter state = record {
  first = state.first;
  reported = moment;
  phase = phase;
  meter = meter;
  allowed = 0;
  denied = 0;
}
after_report None phase meter state = record {
  first = state.first;
  reported = state.reported;
  phase = phase;
  meter = meter;
  allowed = state.allowed;
  denied = state.denied;
}

-- the state after an advance
abbrev pub advanced : BucketRules → Advance → BucketState → BucketState
advanced rules advance state =
    let phase = after_advance rules state.phase advance.to in
    after_report (report_moment rules advance state) phase
    (if (begins_by_expiry rules state.phase advance.to || is_gone phase) then Fresh else state.meter) state

-- 1 for what is so, and 0 for what is not
abbrev pub one_if : Bool → ℕ
one_if b = if b then 1 else 0

-- the answer to a request, the report that follows at once, and the state after it
abbrev pub asked : BucketRules → ℕ → Bool → BucketState → Asked
asked rules at up state =
    let phase = after_request state.phase at in
    let force = force_for rules state.phase at in
    let verdict = judged force.strategy state.meter (at - force.effect) in
    if is_gone state.phase then record {
      allowed = verdict.allowed;
      report = if up then Some (record {
        at = at;
        elapsed = 0;
        allowed = one_if verdict.allowed;
        denied = one_if (not verdict.allowed);
      }) else None;
      state = record {
        first = at;
        reported = at;
        phase = phase;
        meter = verdict.meter;
        allowed = if up then 0 else one_if verdict.allowed;
        denied = if up then 0 else one_if (not verdict.allowed);
      };
    } else record {
      allowed = verdict.allowed;
      report = None;
      state = record {
        first = state.first;
        reported = state.reported;
        phase = phase;
        meter = verdict.meter;
        allowed = shown (state.allowed + one_if verdict.allowed);
        denied = shown (state.denied + one_if (not verdict.allowed));
      };
    }

-- the state after an assignment
abbrev pub assigned : ℕ → Option ℕ → Strategy → BucketState → BucketState
assigned at lifetime strategy state = record {
  first = state.first;
  reported = state.reported;
  phase = after_assignment state.phase at lifetime strategy;
  meter = if begins_by_assignment state.phase strategy then Fresh else state.meter;
  allowed = state.allowed;
  denied = state.denied;
}
