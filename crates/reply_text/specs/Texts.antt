-- The JSON of replies, records and totals: compact, with the names of each object in byte order.
use Rattle.std.specs.Prelude.{ℕ, ◌==◌, List, ◌++◌, map, Bool, if◌then◌else◌, Option, Some, None, codes, decimal}
use Rattle.serde_json.specs.Data.{Data, null, number, unsigned, string, array, object, Members, no_members, member}
use Rattle.serde_json.specs.View.{items_of}
use Rattle.serde_json.specs.Written.{compact_text}
use Rattle.rate_types.specs.UnitNames.{unit_name}
use Rattle.rate_types.specs.declared.entries.Entry.{Entry}
use Rattle.rate_types.specs.declared.request.OwnLimit.{OwnLimit}
use Rattle.rate_types.specs.declared.refused.Refused.{Refused}
use Rattle.rate_types.specs.declared.counter_key.CounterKey.{CounterKey}
use Rattle.rls_core.specs.declared.status.Code.{Code}
use Rattle.rls_core.specs.declared.status.Code.TheVariants.{OverLimit}
use Rattle.rls_core.specs.declared.status.Code.TheVariants as code
use Rattle.rls_core.specs.declared.status.Count.{Count}
use Rattle.rls_core.specs.declared.status.Count.TheVariants.{NoCount, Before, Seen}
use Rattle.rls_core.specs.declared.status.Status.{Status}
use Rattle.rls_core.specs.declared.totals.Total.{Total}
use Rattle.reply_text.specs.declared.record.Outcome.{Outcome}
use Rattle.reply_text.specs.declared.record.Outcome.TheVariants.{Checked, Ticked, Installed, Bad, Full, Spent, VersionsFull}
use Rattle.reply_text.specs.Answer.{Answer}
use Rattle.reply_text.specs.Shown.{Shown}

-- a whole number
abbrev pub whole : ℕ → Data
whole n = number (unsigned n)

-- a member that is left out under a condition
abbrev pub member_unless : Bool → List ℕ → Data → Members → Members
member_unless b name value ms = if b then ms else member name value ms

-- the name of a code
abbrev pub code_name : Code → List ℕ
code_name code.Ok = codes "OK"
code_name OverLimit = codes "OVER_LIMIT"

-- the overall code of a reply that is over, or is not
abbrev pub overall_code : Bool → Code
overall_code over = if over then OverLimit else code.Ok

-- a limit: its number, left out where it is 0, and its unit
abbrev pub limit_data : OwnLimit → Data
limit_data own = object
    (member_unless (own.limit == 0) (codes "requestsPerUnit") (whole own.limit)
    (member (codes "unit") (string (unit_name own.unit)) no_members))

-- where there is a limit, that and the time to reset
abbrev pub limit_members : Option OwnLimit → ℕ → Members → Members
limit_members None reset ms = ms
limit_members (Some own) reset ms =
    member (codes "currentLimit") (limit_data own) (member (codes "durationUntilReset") (string (decimal reset ++ codes "s")) ms)

-- a status: its code, its limit, and what remains, left out where it is 0
unfoldable pub status_data : Status → Data
status_data s = object (member (codes "code") (string (code_name s.code)) (limit_members s.limit s.reset
    (member_unless (s.remaining == 0) (codes "limitRemaining") (whole s.remaining) no_members)))

-- a reply: the overall code and the statuses
unfoldable pub reply_data : Answer → Data
reply_data answer = object (member (codes "overallCode") (string (code_name (overall_code answer.over)))
    (member (codes "statuses") (array (items_of (map status_data answer.statuses))) no_members))

-- what a status found of its counter
abbrev pub count_data : Count → Data
count_data NoCount = null
count_data (Before before) = object (member (codes "before") (whole before) no_members)
count_data (Seen seen) = object (member (codes "seen") (whole seen) no_members)

-- what each status found, in order
unfoldable pub counts_data : List Status → Data
counts_data statuses = array (items_of (map (λ s. count_data s.count) statuses))

-- the place and the number of a refusal
unfoldable pub refused_data : Refused → Data
refused_data refused = object (member (codes "at") (string refused.at) (member (codes "number") (whole refused.number) no_members))

-- the numbers of a check that is refused for want of cells
unfoldable pub full_data : ℕ → ℕ → ℕ → Data
full_data live held wanted = object (member (codes "held") (whole held) (member (codes "live") (whole live)
    (member (codes "name") (string (codes "CountersFull")) (member (codes "wanted") (whole wanted) no_members))))

-- the numbers of a check that is refused for want of claims
unfoldable pub spent_data : ℕ → ℕ → Data
spent_data claims wanted = object (member (codes "claims") (whole claims) (member (codes "name") (string (codes "ClaimsSpent"))
    (member (codes "wanted") (whole wanted) no_members)))

-- the number of versions where no more may be installed
unfoldable pub versions_full_data : ℕ → Data
versions_full_data versions = object (member (codes "name") (string (codes "VersionsFull"))
    (member (codes "versions") (whole versions) no_members))

-- the last two members of each record
abbrev pub by_worker : ℕ → ℕ → Members
by_worker version worker = member (codes "version") (whole version) (member (codes "worker") (whole worker) no_members)

-- the record of an answered check, from its counts and its reply
unfoldable pub checked_line_data : ℕ → ℕ → ℕ → ℕ → Data → Data → Data
checked_line_data line moment version worker counts reply = object (member (codes "counts") counts
    (member (codes "line") (whole line) (member (codes "moment") (whole moment) (member (codes "reply") reply (by_worker version worker)))))

-- the record of a tick
unfoldable pub ticked_line_data : ℕ → ℕ → ℕ → ℕ → ℕ → Data
ticked_line_data line moment version worker ticked = object (member (codes "line") (whole line) (member (codes "moment") (whole moment)
    (member (codes "ticked") (whole ticked) (by_worker version worker))))

-- the record of an installed configuration, whose number is the version
unfoldable pub installed_line_data : ℕ → ℕ → ℕ → ℕ → Data
installed_line_data line moment version worker = object (member (codes "installed") (whole version)
    (member (codes "line") (whole line) (member (codes "moment") (whole moment) (by_worker version worker))))

-- the record of a refused line, from the reason
unfoldable pub refused_line_data : ℕ → ℕ → ℕ → ℕ → Data → Data
refused_line_data line moment version worker why = object (member (codes "line") (whole line) (member (codes "moment") (whole moment)
    (member (codes "refused") why (by_worker version worker))))

-- a record, by what came of its line
abbrev pub outcome_data : ℕ → ℕ → ℕ → ℕ → Outcome → Data
outcome_data line moment version worker (Checked answer) =
    checked_line_data line moment version worker (counts_data answer.statuses) (reply_data answer)
outcome_data line moment version worker (Ticked ticked) = ticked_line_data line moment version worker ticked
outcome_data line moment version worker Installed = installed_line_data line moment version worker
outcome_data line moment version worker (Bad refused) = refused_line_data line moment version worker (refused_data refused)
outcome_data line moment version worker (Full live held wanted) = refused_line_data line moment version worker (full_data live held wanted)
outcome_data line moment version worker (Spent claims wanted) = refused_line_data line moment version worker (spent_data claims wanted)
outcome_data line moment version worker (VersionsFull versions) =
    refused_line_data line moment version worker (versions_full_data versions)

-- a record, by its line, its moment, its version and its worker
unfoldable pub record_data : Shown → Data
record_data r = outcome_data r.line r.moment r.version r.worker r.outcome

-- an entry: its key and its value
unfoldable pub entry_data : Entry → Data
entry_data e = object (member (codes "key") (string e.key) (member (codes "value") (string e.value) no_members))

-- a counter: its domain, its entries, the start of its window and its unit
unfoldable pub counter_data : CounterKey → Data
counter_data c = object
    (member (codes "domain") (string c.name.domain) (member (codes "entries") (array (items_of (map entry_data c.name.entries)))
    (member (codes "start") (whole c.start) (member (codes "unit") (string (unit_name c.name.unit)) no_members))))

-- a total: what was charged on a counter
unfoldable pub total_data : Total → Data
total_data t = object (member (codes "charged") (whole t.charged) (member (codes "counter") (counter_data t.key) no_members))

-- the text of a reply
abbrev pub reply_text_of : Answer → List ℕ
reply_text_of answer = compact_text (reply_data answer)

-- the text of a record
abbrev pub record_text_of : Shown → List ℕ
record_text_of r = compact_text (record_data r)

-- the text of a total
abbrev pub total_text_of : Total → List ℕ
total_text_of t = compact_text (total_data t)
