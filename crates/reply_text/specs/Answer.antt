-- The answer to a check.
use Rattle.std.specs.Prelude.{Bool, List}
use Rattle.rls_core.specs.declared.status.Status.{Status}

-- whether the overall code is OVER_LIMIT, and the status of each descriptor in order
pub record Answer : Type 0 where
  pub over : Bool
  pub statuses : List Status
