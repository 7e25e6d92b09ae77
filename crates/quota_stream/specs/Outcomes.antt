-- What comes of each line of a stream: what is written for it, and the stream after it.
use Rattle.std.specs.Prelude.{ℕ, List, [], ◌∷◌, ◌++◌, map, nat_lt, Bool, true, false, if◌then◌else◌, Option, None, Some, Result, Ok, Err}
use Rattle.rate_types.specs.declared.refused.Refused.{Refused}
use Rattle.proto_json.specs.Said.{reading_of}
use Rattle.quota_settings.specs.declared.pair.Pair.{Pair}
use Rattle.quota_buckets.specs.Streams.{Stream, advanced_to, reports_due, requested, decision, connected, assigned_in}
use Rattle.quota_buckets.specs.Streams.{assignment_result, abandoned_in, phase_in}
use Rattle.quota_buckets.specs.declared.answers.AdvanceFault.{AdvanceFault}
use Rattle.quota_buckets.specs.declared.answers.AdvanceFault.TheVariants.{TimeBack, OutOfMemory}
use Rattle.quota_buckets.specs.declared.answers.Decided.{Decided}
use Rattle.quota_buckets.specs.declared.answers.NoBucket.{NoBucket as NoSuchBucket}
use Rattle.quota_buckets.specs.declared.answers.Assigned.{Assigned as Assignment}
use Rattle.quota_buckets.specs.declared.answers.Assigned.TheVariants.{New, Renewed as Renewal}
use Rattle.quota_buckets.specs.declared.phase.Phase.{Phase}
use Rattle.quota_buckets.specs.declared.phase.Phase.TheVariants.{None as NoPhase, NoAssignment, Live, Expired}
use Rattle.quota_buckets.specs.declared.report.Report.{Report}
use Rattle.quota_lines.specs.Actions.{OneAction}
use Rattle.quota_lines.specs.Line as reading
use Rattle.quota_stream.specs.Texts.{decision_line, report_line, actions_line, connection_line, passing_line, refused_line, time_back_line}
use Rattle.quota_stream.specs.declared.line_number.LineNumber.{LineNumber}
use Rattle.quota_stream.specs.declared.action_answer.ActionAnswer.{ActionAnswer}
use Rattle.quota_stream.specs.declared.action_answer.ActionAnswer.TheVariants.{Assigned, Renewed, Abandoned, NoBucket}
use Rattle.quota_lines.specs.declared.quota_action.QuotaAction.{QuotaAction}
use Rattle.quota_lines.specs.declared.quota_action.QuotaAction.TheVariants.{Assign, Abandon}
use Rattle.quota_lines.specs.declared.stream_line.Connection.{Connection}
use Rattle.quota_lines.specs.declared.stream_line.Connection.TheVariants.{Lost, Up}
use Rattle.quota_lines.specs.declared.stream_line.StreamEvent.{StreamEvent}
use Rattle.quota_lines.specs.declared.stream_line.StreamEvent.TheVariants.{Request, Response, Connection as Connects, Passes}
use Rattle.quota_lines.specs.declared.stream_line.StreamLine.{StreamLine}

-- the lines that are written, and the stream after them
pub record Outcome : Type 0 where
  pub written : List (List ℕ)
  pub stream : Stream

-- ---- a request

-- the line of the first report of a bucket that was made, if there is one
abbrev pub first_report : ℕ → List ℕ → Option Report → List (List ℕ)
first_report stream domain None = []
first_report stream domain (Some report) = report_line stream domain report ∷ []

-- a request's lines, by how it is decided: the decision and then the first report
abbrev pub decided_lines : LineNumber → ℕ → List ℕ → Decided → List (List ℕ)
decided_lines n at domain d = decision_line n at d.bucket d.allowed ∷ first_report n.stream domain d.report

-- ---- actions of the quota server

-- the stream after what becomes of a bucket
abbrev pub after_one : List Pair → QuotaAction → Stream → Stream
after_one bucket (Assign lifetime strategy) s = assigned_in bucket lifetime strategy s
after_one bucket Abandon s = abandoned_in bucket s

-- what an assignment did
abbrev pub assignment_answer : Result Assignment NoSuchBucket → ActionAnswer
assignment_answer (Ok New) = Assigned
assignment_answer (Ok Renewal) = Renewed
assignment_answer (Err none) = NoBucket

-- what an abandonment did, by the phase of the bucket
abbrev pub abandonment_answer : Phase → ActionAnswer
abandonment_answer NoPhase = NoBucket
abandonment_answer NoAssignment = Abandoned
abandonment_answer (Live strategy effect) = Abandoned
abandonment_answer (Expired strategy effect) = Abandoned

-- what an action did
abbrev pub one_answer : List Pair → QuotaAction → Stream → ActionAnswer
one_answer bucket (Assign lifetime strategy) s = assignment_answer (assignment_result bucket strategy s)
one_answer bucket Abandon s = abandonment_answer (phase_in bucket s)

-- the stream after actions in order
abbrev pub after_actions : Stream → List OneAction → Stream
after_actions s [] = s
after_actions s (a ∷ actions) = after_actions (after_one a.bucket a.action s) actions

-- what each of them did
abbrev pub answers_of : Stream → List OneAction → List ActionAnswer
answers_of s [] = []
answers_of s (a ∷ actions) = one_answer a.bucket a.action s ∷ answers_of (after_one a.bucket a.action s) actions

-- ---- a line

-- whether a stream is there after it was lost or came up
abbrev pub is_up : Connection → Bool
is_up Lost = false
is_up Up = true

-- an event at the stream's present time
abbrev pub happened : LineNumber → StreamEvent → Stream → Outcome
happened n (Request attributes) s = record {
  written = decided_lines n s.time s.settings.domain (decision attributes s);
  stream = requested attributes s;
}
happened n (Response actions) s = record {
  written = actions_line n s.time (answers_of s actions) ∷ [];
  stream = after_actions s actions;
}
happened n (Connects connection) s = record {
  written = connection_line n s.time connection ∷ [];
  stream = connected (is_up connection) s;
}
happened n Passes s = record { written = passing_line n s.time ∷ []; stream = s }

-- an outcome with these lines before its own
abbrev pub behind_lines : List (List ℕ) → Outcome → Outcome
behind_lines lines o = record o { written = lines ++ o.written }

-- A line whose moment isn't before the last one: first the reports that fall due up to its moment, in order, and then its event.
abbrev pub accepted : LineNumber → StreamLine → Stream → Outcome
accepted n line s = behind_lines (map (report_line n.stream s.settings.domain) (reports_due line.at s))
    (happened n line.event (advanced_to line.at s))

-- a line that is refused changes nothing
abbrev pub refused_as : List ℕ → Stream → Outcome
refused_as line s = record { written = line ∷ []; stream = s }

-- Inside: the line of one whose moment is before the last one, by the answer of an advance
abbrev pub time_back_text : LineNumber → AdvanceFault → Option (List ℕ)
time_back_text n (TimeBack last) = Some (time_back_line n last)
time_back_text n OutOfMemory = None

-- a line that has no fault of its own: one whose moment is before the last one is refused
abbrev pub in_time : LineNumber → StreamLine → Stream → Outcome
in_time n line s = if nat_lt line.at s.time then refused_as (time_back_line n s.time) s else accepted n line s

-- a line by its reading, which is a line or its first fault
abbrev pub outcome_read : LineNumber → Result (Option StreamLine) Refused → Stream → Outcome
outcome_read n (Err refused) s = refused_as (refused_line n refused) s
outcome_read n (Ok (Some line)) s = in_time n line s
outcome_read n (Ok None) s = record { written = []; stream = s }

-- What comes of a line, by its bytes.
unfoldable pub outcome_of : LineNumber → List ℕ → Stream → Outcome
outcome_of n bytes s = outcome_read n (reading_of (reading.line bytes)) s
