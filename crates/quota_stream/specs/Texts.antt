-- The lines that are written, as JSON: compact, with the names of each object in byte order, each with its line feed.
use Rattle.std.specs.Prelude.{ℕ, ◌==◌, List, [], ◌∷◌, ◌++◌, Bool, true, false, Option, None, Some, if◌then◌else◌, codes, decimal}
use Rattle.std.specs.List.{flat_map}
use Rattle.json.specs.Print.{quoted}
use Rattle.rate_types.specs.Durations.{duration_text}
use Rattle.rate_types.specs.declared.refused.Refused.{Refused}
use Rattle.quota_settings.specs.declared.pair.Pair.{Pair}
use Rattle.quota_buckets.specs.declared.report.Report.{Report}
use Rattle.quota_stream.specs.declared.line_number.LineNumber.{LineNumber}
use Rattle.quota_stream.specs.declared.action_answer.ActionAnswer.{ActionAnswer}
use Rattle.quota_stream.specs.declared.action_answer.ActionAnswer.TheVariants.{Assigned, Renewed, Abandoned, NoBucket}
use Rattle.quota_lines.specs.declared.stream_line.Connection.{Connection}
use Rattle.quota_lines.specs.declared.stream_line.Connection.TheVariants.{Lost, Up}

-- ---- parts of lines

-- a name with its value, as a member of an object
unfoldable pub pair_text : Pair → List ℕ
pair_text p = quoted p.name ++ codes ":" ++ quoted p.value

-- another member
abbrev pub next_pair : Pair → List ℕ
next_pair p = codes "," ++ pair_text p

-- members with commas between them
abbrev pub pairs_text : List Pair → List ℕ
pairs_text [] = []
pairs_text (p ∷ ps) = pair_text p ++ flat_map next_pair ps

-- the name of a bucket, as an object
unfoldable pub bucket_text : List Pair → List ℕ
bucket_text id = codes "{" ++ pairs_text id ++ codes "}"

-- the bucket of a request, null where no settings fit it
abbrev pub found_text : Option (List Pair) → List ℕ
found_text None = codes "null"
found_text (Some id) = bucket_text id

abbrev pub decision_name : Bool → List ℕ
decision_name true = codes "ALLOW"
decision_name false = codes "DENY"

abbrev pub connection_name : Connection → List ℕ
connection_name Lost = codes "LOST"
connection_name Up = codes "UP"

abbrev pub answer_name : ActionAnswer → List ℕ
answer_name Assigned = codes "ASSIGNED"
answer_name Renewed = codes "RENEWED"
answer_name Abandoned = codes "ABANDONED"
answer_name NoBucket = codes "NO_BUCKET"

-- the name of one answer, as JSON
abbrev pub answer_text : ActionAnswer → List ℕ
answer_text answer = codes "\"" ++ answer_name answer ++ codes "\""

-- another answer
abbrev pub next_answer : ActionAnswer → List ℕ
next_answer answer = codes "," ++ answer_text answer

-- the answers with commas between them
abbrev pub answers_text : List ActionAnswer → List ℕ
answers_text [] = []
answers_text (answer ∷ answers) = answer_text answer ++ flat_map next_answer answers

-- ---- what is left out of a report

-- a count of requests, left out where it is 0
unfoldable pub allowed_member : ℕ → List ℕ
allowed_member count = if count == 0 then [] else codes ",\"numRequestsAllowed\":\"" ++ decimal count ++ codes "\""

unfoldable pub denied_member : ℕ → List ℕ
denied_member count = if count == 0 then [] else codes ",\"numRequestsDenied\":\"" ++ decimal count ++ codes "\""

-- the time since the last report, left out where it is 0
unfoldable pub elapsed_member : ℕ → List ℕ
elapsed_member elapsed = if elapsed == 0 then [] else codes ",\"timeElapsed\":\"" ++ duration_text elapsed ++ codes "\""

-- the members of a report's usage behind its bucket
abbrev pub usage_members : Report → List ℕ
usage_members r = allowed_member r.allowed ++ denied_member r.denied ++ elapsed_member r.elapsed

-- a usage of a report: its bucket and its members
unfoldable pub usage_text : Report → List ℕ
usage_text r = codes "{\"bucketId\":{\"bucket\":" ++ bucket_text r.bucket ++ codes "}" ++ usage_members r ++ codes "}"

-- ---- beginnings, middles and ends of lines

-- a line that begins with its moment
unfoldable pub at_start : ℕ → List ℕ
at_start at = codes "{\"at\":\"" ++ duration_text at ++ codes "\""

-- a line that begins with its number
unfoldable pub number_start : ℕ → List ℕ
number_start line = codes "{\"line\":" ++ decimal line

-- a line that begins with what actions did
unfoldable pub actions_start : List ActionAnswer → List ℕ
actions_start answers = codes "{\"actions\":[" ++ answers_text answers ++ codes "]"

-- the moment of a line, behind others
unfoldable pub at_part : ℕ → List ℕ
at_part at = codes ",\"at\":\"" ++ duration_text at ++ codes "\""

-- the bucket of a request, and whether it is allowed
unfoldable pub decision_part : Option (List Pair) → Bool → List ℕ
decision_part bucket allowed = codes ",\"bucket\":" ++ found_text bucket ++ codes ",\"decision\":\"" ++ decision_name allowed ++ codes "\""

-- what happened to the stream
unfoldable pub connection_part : Connection → List ℕ
connection_part connection = codes ",\"connection\":\"" ++ connection_name connection ++ codes "\""

-- the one usage of a report
unfoldable pub usages_text : Report → List ℕ
usages_text r = codes "{\"bucketQuotaUsages\":[" ++ usage_text r ++ codes "]"

-- the domain of a report, its last member
unfoldable pub domain_end : List ℕ → List ℕ
domain_end domain = codes ",\"domain\":" ++ quoted domain ++ codes "}"

-- a report of one bucket of this domain
unfoldable pub report_part : List ℕ → Report → List ℕ
report_part domain r = codes ",\"report\":" ++ usages_text r ++ domain_end domain

-- the place and the number of a refusal
unfoldable pub refusal_text : Refused → List ℕ
refusal_text refused = codes "{\"at\":" ++ quoted refused.at ++ codes ",\"number\":" ++ decimal refused.number ++ codes "}"

-- a refusal as a member
unfoldable pub refused_part : Refused → List ℕ
refused_part refused = codes ",\"refused\":" ++ refusal_text refused

-- 39 TimeBack at the moment, with the last one
unfoldable pub time_back_part : ℕ → List ℕ
time_back_part last = codes ",\"refused\":{\"at\":\"/at\",\"last\":\"" ++ duration_text last ++ codes "\",\"number\":39}"

-- the index of the stream, the end of a line
unfoldable pub stream_end : ℕ → List ℕ
stream_end stream = codes ",\"stream\":" ++ decimal stream ++ codes "}\n"

-- the number of the line before it
unfoldable pub line_end : LineNumber → List ℕ
line_end n = codes ",\"line\":" ++ decimal n.line ++ stream_end n.stream

-- ---- the lines

-- the line of a request
unfoldable pub decision_line : LineNumber → ℕ → Option (List Pair) → Bool → List ℕ
decision_line n at bucket allowed = at_start at ++ decision_part bucket allowed ++ line_end n

-- the line of a report
unfoldable pub report_line : ℕ → List ℕ → Report → List ℕ
report_line stream domain r = at_start r.at ++ report_part domain r ++ stream_end stream

-- the line of a message of the quota server: what each of its actions did
unfoldable pub actions_line : LineNumber → ℕ → List ActionAnswer → List ℕ
actions_line n at answers = actions_start answers ++ at_part at ++ line_end n

-- the line of a stream that is lost or comes up
unfoldable pub connection_line : LineNumber → ℕ → Connection → List ℕ
connection_line n at connection = at_start at ++ connection_part connection ++ line_end n

-- the line of time that passes
unfoldable pub passing_line : LineNumber → ℕ → List ℕ
passing_line n at = at_start at ++ line_end n

-- the line of a refused line
unfoldable pub refused_line : LineNumber → Refused → List ℕ
refused_line n refused = number_start n.line ++ refused_part refused ++ stream_end n.stream

-- the line of one whose moment is before the last one
unfoldable pub time_back_line : LineNumber → ℕ → List ℕ
time_back_line n last = number_start n.line ++ time_back_part last ++ stream_end n.stream
