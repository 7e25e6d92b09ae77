-- Reports and their order.
use Rattle.std.specs.Prelude.{List, [], ◌∷◌, Option, Some, None, nat_le, if◌then◌else◌}
use Rattle.quota_settings.specs.declared.pair.Pair.{Pair}
use Rattle.quota_bucket.specs.declared.bucket_state.Usage.{Usage}
use Rattle.quota_buckets.specs.declared.report.Report.{Report}

-- a report of a bucket
abbrev pub report_from : List Pair → Usage → Report
report_from id usage = record {
  at = usage.at;
  bucket = id;
  elapsed = usage.elapsed;
  allowed = usage.allowed;
  denied = usage.denied;
}

-- the report of a bucket, if there is one, as a list
abbrev pub reports_from : List Pair → Option Usage → List Report
reports_from id None = []
reports_from id (Some usage) = report_from id usage ∷ []

-- a report before those of its moment and of later ones
abbrev pub placed : Report → List Report → List Report
placed r [] = r ∷ []
placed r (x ∷ xs) = if nat_le r.at x.at then r ∷ (x ∷ xs) else x ∷ placed r xs

-- reports, given by age of bucket, in order of their moments; those of one moment stay by age
abbrev pub by_moment : List Report → List Report
by_moment [] = []
by_moment (r ∷ rs) = placed r (by_moment rs)
