-- What a step of the state tells of the history.
use Rattle.std.proofs.Common.{◌≡◌, ◌≤◌, ◌-◌, ◌||◌, ◌∙◌, ap, sym, refl, ℕ, Bool, List, ◌∷◌, Option, Some, None, option_map, if◌then◌else◌}
use Rattle.quota_bucket.specs.declared.rules.BucketRules.{BucketRules}
use Rattle.quota_bucket.specs.declared.bucket_state.BucketState.{BucketState}
use Rattle.quota_bucket.specs.declared.timed_phase.TimedPhase.{TimedPhase}
use Rattle.quota_bucket.specs.declared.meter.Meter.{Meter}
use Rattle.quota_bucket.specs.declared.meter.Meter.TheVariants.{Fresh}
use Rattle.quota_bucket.specs.declared.bucket_state.Usage.{Usage}
use Rattle.quota_bucket.specs.declared.bucket_state.Asked.{Asked}
use Rattle.quota_bucket.specs.declared.bucket_state.Advance.{Advance as AdvanceOf}
use Rattle.quota_bucket.specs.History.{Event, Advance, Request, is_gone, after_advance, begins_by_expiry}
use Rattle.quota_bucket.specs.Reports.{present, report_of_advance}
use Rattle.quota_bucket.specs.Machine.{report_moment, advanced, advance_report, asked}
use Rattle.quota_bucket.specs.State.{state_after, asked_after, IsStateOf}
use Rattle.quota_bucket.specs.TimeOrder.{IsInOrder}
use Rattle.quota_bucket.specs.Allowance.{KeepsAllowance}
use Rattle.quota_bucket.specs.StateLaws.{advanced-state_after, advance_report-state_after, asked-state_after, decided_falls, Falls-later}
use Rattle.quota_bucket.specs.AllowanceLaws.{allowance}

pub report_told : (rules : BucketRules) (history : List Event) (advance : AdvanceOf) (state : BucketState) → IsStateOf rules history state
    → present history ≡ advance.from → (report : Option Usage) → report ≡ advance_report rules advance state
    → report ≡ report_of_advance rules history advance.to advance.up
report_told rules history advance state of from report is =
    is ∙ rw (of.is, ← from) (advance_report-state_after rules history advance.to advance.up)

-- the moment of a report, by the report
sent_at : (o : Option ℕ) (state : BucketState) (usage : Usage) → Some usage ≡ option_map (λ moment. record {
  at = moment;
  elapsed = moment - state.reported;
  allowed = state.allowed;
  denied = state.denied;
}) o → o ≡ Some usage.at
sent_at None state usage is = absurd (cc)
sent_at (Some moment) state usage is =
    let u : usage ≡ record { at = moment; elapsed = moment - state.reported; allowed = state.allowed; denied = state.denied } = cc in
    ap (λ (x : Usage). let o : Option ℕ = Some x.at in o) (sym u)

not_sent : (o : Option ℕ) (state : BucketState) → (let u : Option Usage = None in u) ≡ option_map (λ moment. record {
  at = moment;
  elapsed = moment - state.reported;
  allowed = state.allowed;
  denied = state.denied;
}) o → o ≡ None
not_sent None state is = refl
not_sent (Some moment) state is = absurd (cc)

-- the state after an advance, by its parts
pub sent_is : (rules : BucketRules) (advance : AdvanceOf) (state : BucketState) (usage : Usage) (phase : TimedPhase) (meter : Meter)
    → Some usage ≡ advance_report rules advance state → phase ≡ after_advance rules state.phase advance.to
    → meter ≡ (if (begins_by_expiry rules state.phase advance.to || is_gone phase) then Fresh else state.meter)
    → (let later : BucketState = record { first = state.first; reported = usage.at; phase = phase; meter = meter; allowed = 0; denied = 0 } in later)
    ≡ advanced rules advance state
sent_is rules advance state usage phase meter report at counts = rw (sent_at (report_moment rules advance state) state usage report, ← at, ← counts) refl

pub not_sent_is : (rules : BucketRules) (advance : AdvanceOf) (state : BucketState) (phase : TimedPhase) (meter : Meter)
    → (let u : Option Usage = None in u) ≡ advance_report rules advance state → phase ≡ after_advance rules state.phase advance.to
    → meter ≡ (if (begins_by_expiry rules state.phase advance.to || is_gone phase) then Fresh else state.meter)
    → (let later : BucketState = record { first = state.first; reported = state.reported; phase = phase; meter = meter; allowed = state.allowed; denied = state.denied } in later)
    ≡ advanced rules advance state
not_sent_is rules advance state phase meter report at counts = rw (not_sent (report_moment rules advance state) state report, ← at, ← counts) refl

pub advance_told : (rules : BucketRules) (history : List Event) (advance : AdvanceOf) (state : BucketState) → IsStateOf rules history state
    → present history ≡ advance.from → (later : BucketState) → later ≡ advanced rules advance state
    → later ≡ state_after rules (Advance advance.to advance.up ∷ history)
advance_told rules history advance state of from later is =
    is ∙ rw (of.is, ← from) (advanced-state_after rules history advance.to advance.up)

pub request_told : (rules : BucketRules) (history : List Event) (at : ℕ) (up : Bool) (state : BucketState) → IsStateOf rules history state
    → present history ≤ at → (answer : Asked) → answer ≡ asked rules at up state → answer ≡ asked_after rules history at up
request_told rules history at up state of le answer is =
    is ∙ ap (asked rules at up) of.is
    ∙ asked-state_after rules history at up (Falls-later (present history) at _ le (decided_falls rules history of.in_order))

pub allowance_told : (rules : BucketRules) (history : List Event) (at : ℕ) (up : Bool) → IsInOrder history → present history ≤ at
    → KeepsAllowance rules (Request at up ∷ history)
allowance_told rules history at up order le = allowance rules (Request at up ∷ history) (le, order)
