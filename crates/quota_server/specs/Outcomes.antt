-- What comes of each line of an events file: the line that is written for it, and the server after it.
use Rattle.std.specs.Prelude.{ℕ, ◌+◌, ◌&&◌, not, nat_lt, List, [], ◌∷◌, Bool, true, false, if◌then◌else◌, Option, None, Some}
use Rattle.std.specs.Prelude.{Result, Ok, Err, codes}
use Rattle.rate_types.specs.Counters.{same_text}
use Rattle.rate_types.specs.Places.{child}
use Rattle.rate_types.specs.declared.refused.Refused.{Refused}
use Rattle.rate_types.specs.declared.refusals.TheConstants.{TIME_BACK, OTHER_DOMAIN}
use Rattle.text_lines.specs.Lines.{cut}
use Rattle.proto_json.specs.Said.{reading_of}
use Rattle.quota_settings.specs.declared.pair.Pair.{Pair}
use Rattle.quota_pools.specs.Pools.{AllPools}
use Rattle.quota_pools.specs.Reports.{OneReport}
use Rattle.quota_pools.specs.ReadReport.{report_line}
use Rattle.quota_server.specs.Servers.{QuotaServer, new_server, at_moment, grant_in, after_grant}
use Rattle.quota_server.specs.Texts.{action_text, response_line, refused_line}

-- ---- the usages of a report

-- the server after the grants for buckets, in order
abbrev pub after_grants : List ℕ → List (List Pair) → QuotaServer → QuotaServer
after_grants client [] s = s
after_grants client (b ∷ bs) s = after_grants client bs (after_grant client b s)

-- the action for each of them
abbrev pub actions_for : List ℕ → List (List Pair) → QuotaServer → List (List ℕ)
actions_for client [] s = []
actions_for client (b ∷ bs) s = action_text b (grant_in client b s) ∷ actions_for client bs (after_grant client b s)

-- ---- a line

-- the line that is written, and the server after it
pub record Outcome : Type 0 where
  pub written : List ℕ
  pub server : QuotaServer

-- whether there is no byte
abbrev pub is_nothing : List ℕ → Bool
is_nothing [] = true
is_nothing (b ∷ bs) = false

-- whether reports name another domain than that of the pools
abbrev pub is_of_other : List ℕ → QuotaServer → Bool
is_of_other domain s = not (is_nothing domain) && not (same_text domain s.domain)

-- a refusal at a field of the line
abbrev pub refused_at : List ℕ → ℕ → Refused
refused_at field number = record { at = child [] field; number = number }

-- the refusal of a line that is read: 51 OtherDomain at the reports, or else 39 TimeBack at the moment where it is before the present time
abbrev pub refusal_of : OneReport → QuotaServer → Option Refused
refusal_of report s = if is_of_other report.reports.domain s then Some (refused_at (codes "reports") OTHER_DOMAIN)
    else (if nat_lt report.at s.time then Some (refused_at (codes "at") TIME_BACK) else None)

-- a line that is refused changes nothing
abbrev pub refused_as : ℕ → Refused → QuotaServer → Outcome
refused_as n refused s = record { written = refused_line n refused; server = s }

-- an accepted line: time goes on to its moment, and each usage is answered by the grant of its bucket
abbrev pub accepted : ℕ → OneReport → QuotaServer → Outcome
accepted n report s = record {
  written = response_line n report.at report.client (actions_for report.client report.reports.buckets (at_moment report.at s));
  server = after_grants report.client report.reports.buckets (at_moment report.at s);
}

-- a line that has no fault of its own
abbrev pub outcome_by : Option Refused → ℕ → OneReport → QuotaServer → Outcome
outcome_by (Some refused) n report s = refused_as n refused s
outcome_by None n report s = accepted n report s

-- a line by its reading, which is a report or its first fault
abbrev pub outcome_read : ℕ → Result (Option OneReport) Refused → QuotaServer → Outcome
outcome_read n (Err refused) s = refused_as n refused s
outcome_read n (Ok (Some report)) s = outcome_by (refusal_of report s) n report s
outcome_read n (Ok None) s = record { written = []; server = s }

-- What comes of a line, by its bytes.
unfoldable pub outcome_of : ℕ → List ℕ → QuotaServer → Outcome
outcome_of n bytes s = outcome_read n (reading_of (report_line bytes)) s

-- ---- all lines

-- what is written for these lines, after so many others
abbrev pub outputs : ℕ → QuotaServer → List (List ℕ) → List (List ℕ)
outputs before s [] = []
outputs before s (bytes ∷ more) = (outcome_of (before + 1) bytes s).written ∷ outputs (before + 1) (outcome_of (before + 1) bytes s).server
    more

-- the server after these lines
abbrev pub after_lines : ℕ → QuotaServer → List (List ℕ) → QuotaServer
after_lines before s [] = s
after_lines before s (bytes ∷ more) = after_lines (before + 1) (outcome_of (before + 1) bytes s).server more

-- The output of an events file by pools: a line for each of its lines, in order.
abbrev pub pool_output : AllPools → List ℕ → List (List ℕ)
pool_output pools bytes = outputs 0 (new_server pools) (cut bytes)

-- The server after all of them, with every share that was written.
abbrev pub server_after : AllPools → List ℕ → QuotaServer
server_after pools bytes = after_lines 0 (new_server pools) (cut bytes)
