-- What an action of the quota server says.
use Rattle.std.specs.Prelude.{ℕ, List, [], length, Option, Some, None, unwrap_or, Result, Ok, Err}
use Rattle.serde_json.specs.Data.{Data}
use Rattle.rate_types.specs.declared.refusals.TheConstants.{NO_BUCKET_ID, TWO_OF_ONE, NO_ACTION}
use Rattle.proto_json.specs.Said.{Said, says, refuses, ◌>>=◌}
use Rattle.proto_json.specs.Fields.{Object, take, ends}
use Rattle.proto_json.specs.Kinds as kinds
use Rattle.quota_bucket.specs.declared.strategy.Strategy.TheVariants.{AllowAll}
use Rattle.quota_settings.specs.declared.pair.Pair.{Pair}
use Rattle.quota_settings_json.specs.ReadBehaviors.{empty}
use Rattle.quota_settings_json.specs.ReadStrategy.{strategy, unless_zero}
use Rattle.quota_lines.specs.FieldNames as names
use Rattle.quota_lines.specs.Actions.{OneAction}
use Rattle.quota_lines.specs.ReadBucketId.{bucket_id, few_names}
use Rattle.quota_lines.specs.declared.quota_action.QuotaAction.{QuotaAction}
use Rattle.quota_lines.specs.declared.quota_action.QuotaAction.TheVariants.{Assign, Abandon}

-- ---- an assignment

-- an assignment's fields in order; without a lifetime it doesn't expire, and without a strategy it allows all
unfoldable pub assignment_in : Object → Said (Option QuotaAction)
assignment_in o = do
  lifetime ← take kinds.duration names.assignment_time_to_live o
  s ← take strategy names.rate_limit_strategy lifetime.1
  place ← ends s.1
  says (Some (Assign lifetime.0 (unwrap_or s.0 AllowAll)))

-- an assignment as a kind of field
abbrev pub assignment : List ℕ → Data → Said (Option QuotaAction)
assignment = kinds.and_read kinds.message assignment_in

-- ---- an action

-- the one of an assignment and an abandonment that is there: 34 TwoOfOne where both are, 35 NoAction where neither is
unfoldable pub one_action : Option QuotaAction → Option (List ℕ) → Result QuotaAction ℕ
one_action (Some assigned) None = Ok assigned
one_action None (Some abandoned) = Ok Abandon
one_action (Some assigned) (Some abandoned) = Err TWO_OF_ONE
one_action None None = Err NO_ACTION

-- that one at an action's place
abbrev pub placed_action : List ℕ → Result QuotaAction ℕ → Said (Option QuotaAction)
placed_action place (Ok action) = says (Some action)
placed_action place (Err refusal) = refuses refusal place

-- the action on a bucket of these names, where both are there
abbrev pub action_on : Option (List Pair) → Option QuotaAction → Option OneAction
action_on (Some pairs) (Some action) = Some (record { bucket = pairs; action = action })
action_on pairs action = None

-- an action's own rules: 32 NoBucketId where its bucket has no name, 34 TwoOfOne and 35 NoAction, 37 TooManyParts where its
-- bucket has over 32 names
unfoldable pub action_rules : List ℕ → List Pair → Option QuotaAction → Option (List ℕ) → Said (Option OneAction)
action_rules place pairs assigned abandoned = do
  some ← unless_zero NO_BUCKET_ID place (length pairs)
  action ← placed_action place (one_action assigned abandoned)
  few ← few_names place pairs
  says (action_on few action)

-- an action's fields in order, then its own rules
unfoldable pub action_in : Object → Said (Option OneAction)
action_in o = do
  id ← take bucket_id names.bucket_id o
  assigned ← take assignment names.quota_assignment_action id.1
  abandoned ← take empty names.abandon_action assigned.1
  place ← ends abandoned.1
  action_rules place (unwrap_or id.0 []) assigned.0 abandoned.0

-- an action as a kind of value
abbrev pub action : List ℕ → Data → Said (Option OneAction)
action = kinds.and_read kinds.message action_in
