-- An action of the quota server on a bucket.
use Rattle.std.specs.Prelude.{List}
use Rattle.quota_settings.specs.declared.pair.Pair.{Pair}
use Rattle.quota_lines.specs.declared.quota_action.QuotaAction.{QuotaAction}

-- the id of the bucket, and what becomes of it
pub record OneAction : Type 0 where
  pub bucket : List Pair
  pub action : QuotaAction
