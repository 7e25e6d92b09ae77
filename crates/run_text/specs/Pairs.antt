-- Inside: the status of a pair of values.
use Rattle.serde_json.specs.View.{view}
use Rattle.serde_json.specs.declared.value.Value.{Value}
use Rattle.rls_core.specs.declared.status.Status.{Status}
use Rattle.run_text.specs.Found.{status_in}

-- the status that a count and a value show
unfoldable pub status_at : Value → Value → Status
status_at count value = status_in (view count) (view value)
