-- A stream so far: its time, whether it is up, and each bucket that is there with its history, in order of making.
use Rattle.std.specs.Prelude.{ℕ, List, [], ◌∷◌, ◌++◌, Option, Some, None, Result, Ok, Err, Bool, true, false, map, filter, find}
use Rattle.std.specs.Prelude.{option_map, unwrap_or, All}
use Rattle.std.specs.List.{flat_map}
use Rattle.quota_settings.specs.Covering.{AllSettings, OneSettings, covering, id_of}
use Rattle.quota_settings.specs.declared.pair.Pair.{Pair}
use Rattle.quota_bucket.specs.History.{Advance, Request, Assignment, phase_after, is_allowed, begins_by_assignment}
use Rattle.quota_bucket.specs.Reports.{report_of_advance, report_of_request}
use Rattle.quota_bucket.specs.Allowance.{KeepsAllowance}
use Rattle.quota_bucket.specs.declared.rules.BucketRules.{BucketRules}
use Rattle.quota_bucket.specs.declared.strategy.Strategy.{Strategy}
use Rattle.quota_buckets.specs.Pasts.{Past, happened, is_there, is_named}
use Rattle.quota_buckets.specs.Sending.{report_from, reports_from, by_moment}
use Rattle.quota_buckets.specs.FirstMatch.{at_first, without_first}
use Rattle.quota_buckets.specs.Phases.{phase_of}
use Rattle.quota_buckets.specs.declared.phase.Phase.{Phase}
use Rattle.quota_buckets.specs.declared.phase.Phase.TheVariants.{None as NoPhase}
use Rattle.quota_buckets.specs.declared.answers.NoBucket.{NoBucket}
use Rattle.quota_buckets.specs.declared.answers.Decided.{Decided}
use Rattle.quota_buckets.specs.declared.answers.Assigned.{Assigned}
use Rattle.quota_buckets.specs.declared.answers.Assigned.TheVariants.{New, Renewed}
use Rattle.quota_buckets.specs.declared.report.Report.{Report}

-- the settings of a stream, its time, whether it is up, and its buckets with their histories, in order of making
pub record Stream : Type 0 where
  pub settings : AllSettings
  pub time : ℕ
  pub up : Bool
  pub buckets : List Past

-- a new stream: no bucket, time 0, up
abbrev pub new_stream : AllSettings → Stream
new_stream settings = record { settings = settings; time = 0; up = true; buckets = [] }

-- the bucket of a name
abbrev pub bucket_of : List Pair → Stream → Option Past
bucket_of id s = find (is_named id) s.buckets

-- a stream after an advance: each bucket has it, and the erased ones are gone
abbrev pub advanced_to : ℕ → Stream → Stream
advanced_to at s = record s { time = at; buckets = filter is_there (map (happened (Advance at s.up)) s.buckets) }

-- the report that an advance sends of a bucket
abbrev pub past_reports : ℕ → Bool → Past → List Report
past_reports at up past = reports_from past.id (report_of_advance past.rules past.history at up)

-- the reports that fall due at an advance, in order of their moments, those of one moment by age of bucket
abbrev pub reports_due : ℕ → Stream → List Report
reports_due at s = by_moment (flat_map (past_reports at s.up) s.buckets)

-- a stream after it was lost or came up
abbrev pub connected : Bool → Stream → Stream
connected up s = record s { up = up }

-- a stream after a request of a bucket that is there
abbrev pub asked_again : List Pair → Stream → Stream
asked_again id s = record s { buckets = at_first (is_named id) (happened (Request s.time s.up)) s.buckets }

-- the answer to a request of a bucket that is there
abbrev pub answer : List Pair → Stream → Option Bool
answer id s = option_map (λ p. is_allowed p.rules p.history s.time) (bucket_of id s)

-- a stream after an assignment of a bucket, if it is there
abbrev pub assigned_in : List Pair → Option ℕ → Strategy → Stream → Stream
assigned_in id lifetime strategy s =
    record s { buckets = at_first (is_named id) (happened (Assignment s.time lifetime strategy)) s.buckets }

-- what an assignment did, by whether it begins an effect
abbrev pub assigned_as : Bool → Assigned
assigned_as true = New
assigned_as false = Renewed

-- an answer about a bucket, where there is one
abbrev pub or_no_bucket : {X : Type 0} → Option X → Result X NoBucket
or_no_bucket (Some x) = Ok x
or_no_bucket None = Err (record {})

-- the answer to an assignment: what it did, where there is such a bucket
abbrev pub assignment_result : List Pair → Strategy → Stream → Result Assigned NoBucket
assignment_result id strategy s =
    or_no_bucket (option_map (λ p. assigned_as (begins_by_assignment (phase_after p.rules p.history) strategy)) (bucket_of id s))

-- a stream after an abandonment of a bucket, if it is there
abbrev pub abandoned_in : List Pair → Stream → Stream
abandoned_in id s = record s { buckets = without_first (is_named id) s.buckets }

-- the phase of a name
abbrev pub phase_in : List Pair → Stream → Phase
phase_in id s = unwrap_or (option_map (λ p. phase_of (phase_after p.rules p.history)) (bucket_of id s)) NoPhase

-- a bucket that a request makes now
abbrev pub made_now : List Pair → BucketRules → Stream → Past
made_now id rules s = record { id = id; rules = rules; history = Request s.time s.up ∷ [] }

-- after a request of a bucket, which is made where it isn't there
abbrev pub asked_named : List Pair → BucketRules → Stream → Option Bool → Stream
asked_named id rules s (Some allowed) = asked_again id s
asked_named id rules s None = record s { buckets = s.buckets ++ made_now id rules s ∷ [] }

-- its answer, with the first report of a bucket that was made
abbrev pub decided_named : List Pair → BucketRules → Stream → Option Bool → Decided
decided_named id rules s (Some allowed) = record { bucket = Some id; allowed = allowed; report = None }
decided_named id rules s None = record {
  bucket = Some id;
  allowed = is_allowed rules [] s.time;
  report = option_map (report_from id) (report_of_request rules [] s.time s.up);
}

-- after a request, by the settings that fit it
abbrev pub asked_by : List Pair → Stream → Option OneSettings → Stream
asked_by attributes s None = s
asked_by attributes s (Some settings) =
    let id = id_of settings attributes in asked_named id settings.rules s (answer id s)

-- its answer, by the settings that fit it
abbrev pub decided_by : List Pair → Stream → Option OneSettings → Decided
decided_by attributes s None = record { bucket = None; allowed = true; report = None }
decided_by attributes s (Some settings) =
    let id = id_of settings attributes in decided_named id settings.rules s (answer id s)

-- a stream after a request: a request without settings changes nothing
abbrev pub requested : List Pair → Stream → Stream
requested attributes s = asked_by attributes s (covering s.settings attributes)

-- the answer to a request: a request without settings is allowed and has no bucket
abbrev pub decision : List Pair → Stream → Decided
decision attributes s = decided_by attributes s (covering s.settings attributes)

-- the name of the bucket of a request
abbrev pub found_id : List Pair → Stream → Option (List Pair)
found_id attributes s = option_map (λ settings. id_of settings attributes) (covering s.settings attributes)

-- no bucket's effect allowed more than its strategy's number
abbrev pub KeepAllowance : Stream → Type 0
KeepAllowance s = All (λ p. KeepsAllowance p.rules p.history) s.buckets
