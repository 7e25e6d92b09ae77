-- What a client reported.
use Rattle.std.specs.Prelude.{ℕ, List}
use Rattle.quota_settings.specs.declared.pair.Pair.{Pair}

-- reports of this domain, with the bucket of each usage in order
pub record ClientReports : Type 0 where
  pub domain : List ℕ
  pub buckets : List (List Pair)

-- the reports of a client at a moment
pub record OneReport : Type 0 where
  pub at : ℕ
  pub client : List ℕ
  pub reports : ClientReports
