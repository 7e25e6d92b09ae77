-- What a line says in which a client reports its usage.
use Rattle.std.specs.Prelude.{ℕ, List, [], ◌∷◌, length, Option, Some, None, unwrap_or}
use Rattle.serde_json.specs.Data.{Data}
use Rattle.rate_types.specs.declared.refusals.TheConstants.{TEXT_TOO_LONG, NO_BUCKET_ID, NO_TIME, NO_CLIENT}
use Rattle.proto_json.specs.Said.{Said, says, refuses, ◌>>=◌}
use Rattle.proto_json.specs.Fields.{Object, take, ends}
use Rattle.proto_json.specs.Kinds as kinds
use Rattle.proto_json.specs.Lists.{each_item}
use Rattle.proto_json.specs.Document.{document}
use Rattle.quota_settings.specs.declared.pair.Pair.{Pair}
use Rattle.quota_settings_json.specs.ReadStrategy.{unless_zero}
use Rattle.quota_lines.specs.FieldNames as line_names
use Rattle.quota_lines.specs.ReadBucketId.{bucket_id, few_names}
use Rattle.quota_pools.specs.FieldNames as names
use Rattle.quota_pools.specs.Reports.{ClientReports, OneReport}

-- ---- a usage

-- a usage's own rules: 32 NoBucketId where its bucket has no name, 37 TooManyParts where it has over 32
unfoldable pub usage_rules : List ℕ → List Pair → Said (Option (List Pair))
usage_rules place pairs = do
  some ← unless_zero NO_BUCKET_ID place (length pairs)
  few_names place pairs

-- a usage's fields in order, of which its bucket alone decides, then its own rules
unfoldable pub usage_in : Object → Said (Option (List Pair))
usage_in o = do
  id ← take bucket_id line_names.bucket_id o
  elapsed ← take kinds.duration names.time_elapsed id.1
  allowed ← take kinds.uint64 names.num_requests_allowed elapsed.1
  denied ← take kinds.uint64 names.num_requests_denied allowed.1
  place ← ends denied.1
  usage_rules place (unwrap_or id.0 [])

-- a usage as a kind of value
abbrev pub usage : List ℕ → Data → Said (Option (List Pair))
usage = kinds.and_read kinds.message usage_in

-- ---- reports

-- a list of usages as a kind of field
abbrev pub usages : List ℕ → Data → Said (Option (List (List Pair)))
usages = kinds.and_read kinds.list (each_item usage)

-- the fields of reports in order; an absent domain is empty, absent usages are none
unfoldable pub reports_in : Object → Said (Option ClientReports)
reports_in o = do
  d ← take (kinds.short_text TEXT_TOO_LONG) names.domain o
  us ← take usages names.bucket_quota_usages d.1
  place ← ends us.1
  says (Some (record { domain = unwrap_or d.0 []; buckets = unwrap_or us.0 [] }))

-- reports as a kind of field
abbrev pub reports : List ℕ → Data → Said (Option ClientReports)
reports = kinds.and_read kinds.message reports_in

-- ---- a line

-- reports of no usage, those of a line that names none
abbrev pub no_reports : ClientReports
no_reports = record { domain = []; buckets = [] }

-- the reports of a client at a moment, where that is there
abbrev pub report_at : Option ℕ → List ℕ → ClientReports → Said (Option OneReport)
report_at (Some at) client reported = says (Some (record { at = at; client = client; reports = reported }))
report_at None client reported = says None

-- a client's name that isn't empty, else 50 NoClient
abbrev pub some_client : List ℕ → List ℕ → Said (Option (List ℕ))
some_client place [] = refuses NO_CLIENT place
some_client place (c ∷ cs) = says (Some (c ∷ cs))

-- a line's own rules: 36 NoTime, then 50 NoClient where the client is absent or empty
unfoldable pub report_rules : List ℕ → Option ℕ → List ℕ → ClientReports → Said (Option OneReport)
report_rules place at client reported = do
  moment ← kinds.wanted NO_TIME place at
  some ← some_client place client
  report_at moment client reported

-- a line's fields in order, then its own rules
unfoldable pub report_in : Object → Said (Option OneReport)
report_in o = do
  at ← take kinds.duration names.at o
  c ← take (kinds.short_text TEXT_TOO_LONG) names.client at.1
  r ← take reports names.reports c.1
  place ← ends r.1
  report_rules place at.0 (unwrap_or c.0 []) (unwrap_or r.0 no_reports)

-- a line at its place
unfoldable pub report_said : List ℕ → Data → Said (Option OneReport)
report_said place d = kinds.message place d >>= kinds.read_some report_in

-- a line, by its bytes
unfoldable pub report_line : List ℕ → Said (Option OneReport)
report_line bytes = document bytes >>= kinds.read_some (report_said [])
