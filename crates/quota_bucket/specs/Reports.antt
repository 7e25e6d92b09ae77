-- When a bucket reports, and what.
use Rattle.std.specs.Prelude.{ℕ, ◌+◌, ◌-◌, ◌*◌, ◌/◌, ◌^◌, ◌&&◌, Bool, true, false, not, List, [], ◌∷◌, min, nat_le}
use Rattle.std.specs.Prelude.{if◌then◌else◌, Some, None, Option, option_map, is_some, unwrap_or, count_by}
use Rattle.quota_bucket.specs.Strategies.{Decision}
use Rattle.quota_bucket.specs.History.{Event}
use Rattle.quota_bucket.specs.History.{Advance, Request}
use Rattle.quota_bucket.specs.History.{moment_of, phase_after, after_advance, is_allowed, is_gone}
use Rattle.quota_bucket.specs.declared.rules.BucketRules.{BucketRules}
use Rattle.quota_bucket.specs.declared.bucket_state.Usage.{Usage}
use Rattle.quota_bucket.specs.declared.timed_phase.TimedPhase.{TimedPhase}

-- the moment of the latest event; a history begins at 0, as a stream does
abbrev pub present : List Event → ℕ
present [] = 0
present (event ∷ history) = moment_of event

-- the moment of the request that made the bucket; without one there is no bucket, and nothing asks for it
abbrev pub first_at : BucketRules → List Event → ℕ
first_at rules [] = 0
first_at rules (Request at up ∷ history) = if is_gone (phase_after rules history) then at else first_at rules history
first_at rules (_ ∷ history) = first_at rules history

-- the least `first + k * interval`, k at least 1, that is after `time`
abbrev pub next_report : ℕ → ℕ → ℕ → ℕ
next_report first interval time = first + ((time - first) / interval + 1) * interval

-- whether the bucket is still there after what falls due up to a moment
unfoldable pub outlives : BucketRules → TimedPhase → ℕ → Bool
outlives rules phase moment = not (is_gone (after_advance rules phase moment))

-- the moment of the report that an advance sends, if it sends one: a report moment that the advance reaches, where the stream
-- is up, a request was decided since the last report, and the bucket isn't erased at or before that moment
abbrev pub reported_by_advance : BucketRules → TimedPhase → ℕ → Bool → ℕ → Bool → ℕ → Option ℕ
reported_by_advance rules phase first waits from up to =
    let moment = next_report first rules.reporting.value from in
    if nat_le moment to && (up && (waits && outlives rules phase moment)) then Some moment else None

-- whether a request was decided since the last report
abbrev pub waits : List Decision → Bool
waits [] = false
waits (d ∷ ds) = true

-- the requests since the last report, each with its answer, the latest first
abbrev pub unreported : BucketRules → List Event → List Decision
unreported rules [] = []
unreported rules (Advance at up ∷ history) =
    if is_some (reported_by_advance rules (phase_after rules history) (first_at rules history)
    (waits (unreported rules history)) (present history) up at)
    then [] else unreported rules history
unreported rules (Request at up ∷ history) =
    if is_gone (phase_after rules history)
    then (if up then [] else record { at = at; allowed = is_allowed rules history at } ∷ [])
    else record { at = at; allowed = is_allowed rules history at } ∷ unreported rules history
unreported rules (_ ∷ history) = unreported rules history

-- the moment of the last report, and before the first one that of the request that made the bucket; without one there is no bucket,
-- and nothing asks for it
abbrev pub last_report : BucketRules → List Event → ℕ
last_report rules [] = 0
last_report rules (Advance at up ∷ history) =
    unwrap_or (reported_by_advance rules (phase_after rules history) (first_at rules history)
    (waits (unreported rules history)) (present history) up at)
    (last_report rules history)
last_report rules (Request at up ∷ history) = if is_gone (phase_after rules history) then at else last_report rules history
last_report rules (_ ∷ history) = last_report rules history

-- counts stop at the greatest u64
abbrev pub shown : ℕ → ℕ
shown n = min n (2 ^ 64 - 1)

-- the report that an advance at a moment sends after a history
abbrev pub report_of_advance : BucketRules → List Event → ℕ → Bool → Option Usage
report_of_advance rules history to up =
    option_map (λ moment. record {
      at = moment;
      elapsed = moment - last_report rules history;
      allowed = shown (count_by (λ d. d.allowed) (unreported rules history));
      denied = shown (count_by (λ d. not d.allowed) (unreported rules history));
    })
    (reported_by_advance rules (phase_after rules history) (first_at rules history)
    (waits (unreported rules history)) (present history) up to)

-- the report that follows the request that makes a bucket
abbrev pub report_of_request : BucketRules → List Event → ℕ → Bool → Option Usage
report_of_request rules history at up =
    if is_gone (phase_after rules history) && up then Some (record {
      at = at;
      elapsed = 0;
      allowed = if is_allowed rules history at then 1 else 0;
      denied = if is_allowed rules history at then 0 else 1;
    }) else None
