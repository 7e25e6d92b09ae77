-- Whatever the lines of a stream say, its buckets keep their allowances.
use Rattle.std.proofs.Common.{◌≡◌, ℕ, ◌+◌, ◌≤◌, List, [], ◌∷◌, take, Bool, true, false, cond, nat_lt, Option, Some, None, Result, Ok, Err, refl, arith}
use Rattle.std.proofs.lemmas.Bool.Decides.{nat_tests}
use Rattle.rate_types.specs.declared.refused.Refused.{Refused}
use Rattle.text_lines.specs.Lines.{cut}
use Rattle.proto_json.specs.Said.{reading_of}
use Rattle.quota_settings.specs.Covering.{AllSettings, OneSettings, covering, id_of}
use Rattle.quota_settings.specs.declared.pair.Pair.{Pair}
use Rattle.quota_bucket.specs.declared.rules.BucketRules.{BucketRules}
use Rattle.quota_buckets.specs.Tables.{Table}
use Rattle.quota_buckets.specs.Held.{IsHeld}
use Rattle.quota_buckets.specs.Streams.{Stream, new_stream, advanced_to, answer, asked_named, asked_by, KeepAllowance}
use Rattle.quota_buckets.proofs.Holding.{advance_held, ask_held, assign_held, abandon_held, made_held, up_held, allowance_held}
use Rattle.quota_lines.specs.Actions.{OneAction}
use Rattle.quota_lines.specs.Line as reading
use Rattle.quota_lines.specs.declared.quota_action.QuotaAction.{QuotaAction}
use Rattle.quota_lines.specs.declared.quota_action.QuotaAction.TheVariants.{Assign, Abandon}
use Rattle.quota_lines.specs.declared.stream_line.StreamEvent.{StreamEvent}
use Rattle.quota_lines.specs.declared.stream_line.StreamEvent.TheVariants.{Request, Response, Connection as Connects, Passes}
use Rattle.quota_lines.specs.declared.stream_line.StreamLine.{StreamLine}
use Rattle.quota_stream.specs.Outcomes.{is_up, after_one, after_actions, happened, accepted, refused_as, outcome_read, outcome_of}
use Rattle.quota_stream.specs.Texts.{time_back_line}
use Rattle.quota_stream.specs.declared.line_number.LineNumber.{LineNumber}
use Rattle.cli_quota.specs.Allowances.{after_lines, KeepAllowances}

-- the histories of a stream are those of some table
abbrev Holds : Stream → Type 0
Holds s = (table : Table) × IsHeld s.settings s.up table s

new_holds : (settings : AllSettings) → Holds (new_stream settings)
new_holds settings = (record { time = 0; stored = [] }, record { settings_are = refl; is_up = refl; time_is = refl; stored_are = refl; on_time = tt })

advanced_holds : (s : Stream) (at : ℕ) → s.time ≤ at → Holds s → Holds (advanced_to at s)
advanced_holds s at le (table, h) =
    let e = h.time_is in
    (_, advance_held s.settings s.up table _ s at h (omega arith) refl)

named_holds : (id : List Pair) (rules : BucketRules) (s : Stream) (o : Option Bool) → Holds s → Holds (asked_named id rules s o)
named_holds id rules s (Some allowed) (table, h) = (_, ask_held s.settings s.up table _ s id h refl)
named_holds id rules s None (table, h) = (_, made_held s.settings s.up table _ s id rules _ h refl refl)

asked_holds : (attributes : List Pair) (s : Stream) (o : Option OneSettings) → Holds s → Holds (asked_by attributes s o)
asked_holds attributes s None h = h
asked_holds attributes s (Some settings) h =
    let id = id_of settings attributes in named_holds id settings.rules s (answer id s) h

one_holds : (bucket : List Pair) (action : QuotaAction) (s : Stream) → Holds s → Holds (after_one bucket action s)
one_holds bucket (Assign lifetime strategy) s (table, h) = (_, assign_held s.settings s.up table _ s bucket lifetime strategy h refl)
one_holds bucket Abandon s (table, h) = (_, abandon_held s.settings s.up table _ s bucket h refl)

actions_hold : (s : Stream) (actions : List OneAction) → Holds s → Holds (after_actions s actions)
actions_hold s [] h = h
actions_hold s (a ∷ actions) h = actions_hold (after_one a.bucket a.action s) actions (one_holds a.bucket a.action s h)

event_holds : (n : LineNumber) (event : StreamEvent) (s : Stream) → Holds s → Holds (happened n event s).stream
event_holds n (Request attributes) s h = asked_holds attributes s (covering s.settings attributes) h
event_holds n (Response actions) s h = actions_hold s actions h
event_holds n (Connects connection) s (table, h) = (table, up_held s.settings s.up (is_up connection) table s h)
event_holds n Passes s h = h

accepted_holds : (n : LineNumber) (line : StreamLine) (s : Stream) → s.time ≤ line.at → Holds s → Holds (accepted n line s).stream
accepted_holds n line s le h = event_holds n line.event (advanced_to line.at s) (advanced_holds s line.at le h)

later_or_not : (n : LineNumber) (line : StreamLine) (s : Stream) (b : Bool) → nat_lt line.at s.time ≡ b → Holds s
    → Holds (cond b (refused_as (time_back_line n s.time) s) (accepted n line s)).stream
later_or_not n line s true is h = h
later_or_not n line s false is h = accepted_holds n line s (grind (arith, nat_tests)) h

read_holds : (n : LineNumber) (r : Result (Option StreamLine) Refused) (s : Stream) → Holds s → Holds (outcome_read n r s).stream
read_holds n (Err refused) s h = h
read_holds n (Ok (Some line)) s h = later_or_not n line s (nat_lt line.at s.time) refl h
read_holds n (Ok None) s h = h

line_holds : (n : LineNumber) (bytes : List ℕ) (s : Stream) → Holds s → Holds (outcome_of n bytes s).stream
unfolding outcome_of
line_holds n bytes s h = read_holds n (reading_of (reading.line bytes)) s h

lines_hold : (index before : ℕ) (s : Stream) (lines : List (List ℕ)) → Holds s → Holds (after_lines index before s lines)
lines_hold index before s [] h = h
lines_hold index before s (bytes ∷ more) h =
    let n : LineNumber = record { stream = index; line = before + 1 } in
    lines_hold index (before + 1) (outcome_of n bytes s).stream more (line_holds n bytes s h)

kept : (s : Stream) → Holds s → KeepAllowance s
kept s (table, h) = allowance_held s.settings s.up table s h

-- streams keep their allowances
pub allowances_kept : (settings : AllSettings) (index : ℕ) (streams : List (List ℕ)) → KeepAllowances settings index streams
allowances_kept settings index [] = tt
allowances_kept settings index (bytes ∷ more) = (
  λ count. kept (after_lines index 0 (new_stream settings) (take count (cut bytes)))
      (lines_hold index 0 (new_stream settings) (take count (cut bytes)) (new_holds settings)),
  allowances_kept settings (index + 1) more,
)
