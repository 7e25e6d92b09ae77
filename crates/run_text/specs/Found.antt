-- Inside: the record that a value shows, where it is a record's.
use Rattle.std.specs.Prelude.{ℕ, List, [], map, zip, length, Bool, true, nat_lt, if◌then◌else◌, Option, Some, None, codes}
use Rattle.std.specs.Str.{bytes_eq}
use Rattle.serde_json.specs.Data.{Data}
use Rattle.serde_json.specs.Find.{get}
use Rattle.rate_types.specs.declared.unit.Unit.{Unit}
use Rattle.rate_types.specs.declared.unit.Unit.TheVariants.{Second, Minute, Hour, Day}
use Rattle.rate_types.specs.declared.request.OwnLimit.{OwnLimit}
use Rattle.rate_types.specs.declared.limits.TheConstants.{MOST_DESCRIPTORS}
use Rattle.rls_core.specs.declared.status.Code.{Code}
use Rattle.rls_core.specs.declared.status.Code.TheVariants.{OverLimit}
use Rattle.rls_core.specs.declared.status.Code.TheVariants as code
use Rattle.rls_core.specs.declared.status.Count.{Count}
use Rattle.rls_core.specs.declared.status.Count.TheVariants.{NoCount, Before, Seen}
use Rattle.rls_core.specs.declared.status.Status.{Status}
use Rattle.reply_text.specs.declared.record.Outcome.{Outcome}
use Rattle.reply_text.specs.declared.record.Outcome.TheVariants.{Checked, Ticked, Installed, Bad, Full, Spent, VersionsFull}
use Rattle.reply_text.specs.Answer.{Answer}
use Rattle.reply_text.specs.Shown.{Shown}
use Rattle.run_text.specs.Members.{at, whole_of, u32_of, moment_of, text_of, number_before_last, items_in}
use Rattle.run_text.specs.Pointers.{is_pointer}

-- whether a code's name is OVER_LIMIT
abbrev pub is_over : List ℕ → Bool
is_over name = bytes_eq name (codes "OVER_LIMIT")

abbrev pub code_of : List ℕ → Code
code_of name = if is_over name then OverLimit else code.Ok

-- the unit of a name, DAY where it is another one's
abbrev pub unit_of : List ℕ → Unit
unit_of name = if bytes_eq name (codes "SECOND") then Second
    else (if bytes_eq name (codes "MINUTE") then Minute
    else (if bytes_eq name (codes "HOUR") then Hour else Day))

abbrev pub limit_of : Option Data → Option OwnLimit
limit_of None = None
limit_of (Some d) = Some (record { limit = u32_of (get (codes "requestsPerUnit") d); unit = unit_of (text_of (get (codes "unit") d)) })

-- the time to reset, which only a limit has
abbrev pub reset_under : Option OwnLimit → Option Data → ℕ
reset_under None o = 0
reset_under (Some own) o = number_before_last (text_of o)

-- a count, by what stands for `before` and for `seen`
abbrev pub count_by : Option Data → Option Data → Count
count_by (Some d) seen = Before (whole_of (Some d))
count_by None (Some d) = Seen (whole_of (Some d))
count_by None None = NoCount

abbrev pub count_in : Data → Count
count_in d = count_by (get (codes "before") d) (get (codes "seen") d)

-- a status and its count
unfoldable pub status_in : Data → Data → Status
status_in count d = record {
  code = code_of (text_of (get (codes "code") d));
  limit = limit_of (get (codes "currentLimit") d);
  remaining = u32_of (get (codes "limitRemaining") d);
  reset = reset_under (limit_of (get (codes "currentLimit") d)) (get (codes "durationUntilReset") d);
  rule = None;
  count = count_in count;
}

-- each status with its count
abbrev pub statuses_in : List Data → List Data → List Status
statuses_in counts statuses = map (λ p. status_in p.0 p.1) (zip counts statuses)

-- these where there are as few as a reply has
abbrev pub if_few : List Status → List Status
if_few statuses = if nat_lt MOST_DESCRIPTORS (length statuses) then [] else statuses

unfoldable pub answer_in : Option Data → Option Data → Answer
answer_in counts reply = record {
  over = is_over (text_of (at (codes "overallCode") reply));
  statuses = if_few (statuses_in (items_in counts) (items_in (at (codes "statuses") reply)));
}

-- why a check or a reload was refused, by what stands for `live` and for `claims`
abbrev pub refused_by : Option Data → Option Data → Data → Outcome
refused_by (Some live) claims why =
    Full (u32_of (Some live)) (u32_of (get (codes "held") why)) (u32_of (get (codes "wanted") why))
refused_by None (Some claims) why = Spent (whole_of (Some claims)) (u32_of (get (codes "wanted") why))
refused_by None None why = VersionsFull (u32_of (get (codes "versions") why))

abbrev pub refused_in : Data → Outcome
refused_in why = refused_by (get (codes "live") why) (get (codes "claims") why) why

-- what came of a line, by what stands for `counts`, for `ticked` and for `refused`
abbrev pub outcome_by : Option Data → Option Data → Option Data → Data → Outcome
outcome_by (Some counts) ticked refused d = Checked (answer_in (Some counts) (get (codes "reply") d))
outcome_by None (Some ticked) refused d = Ticked (moment_of (Some ticked))
outcome_by None None (Some why) d = refused_in why
outcome_by None None None d = Installed

unfoldable pub outcome_in : Data → Outcome
outcome_in d = outcome_by (get (codes "counts") d) (get (codes "ticked") d) (get (codes "refused") d) d

-- what stands for `at` in what stands for `refused`
abbrev pub place_in : Data → Option Data
place_in d = at (codes "at") (get (codes "refused") d)

-- the outcome, by what stands for `at` in what stands for `refused`
abbrev pub outcome_of : Option Data → Data → Outcome
outcome_of (Some place) d = Bad (record { at = text_of (Some place); number = u32_of (at (codes "number") (get (codes "refused") d)) })
outcome_of None d = outcome_in d

-- the record
unfoldable pub record_in : Data → Shown
record_in d = record {
  line = u32_of (get (codes "line") d);
  worker = u32_of (get (codes "worker") d);
  version = u32_of (get (codes "version") d);
  moment = moment_of (get (codes "moment") d);
  outcome = outcome_of (place_in d) d;
}

-- a place is a JSON pointer
abbrev pub is_placed : Option Data → Bool
is_placed None = true
is_placed (Some place) = is_pointer (text_of (Some place))
