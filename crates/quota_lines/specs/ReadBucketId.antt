-- What the id of a bucket says.
use Rattle.std.specs.Prelude.{ℕ, List, [], length, nat_lt, if◌then◌else◌, Option, Some, unwrap_or}
use Rattle.serde_json.specs.Data.{Data}
use Rattle.rate_types.specs.declared.limits.TheConstants.{MOST_PARTS}
use Rattle.rate_types.specs.declared.refusals.TheConstants.{TOO_MANY_PARTS}
use Rattle.proto_json.specs.Said.{Said, says, refuses, ◌>>=◌}
use Rattle.proto_json.specs.Fields.{Object, take, ends}
use Rattle.proto_json.specs.Kinds as kinds
use Rattle.quota_settings.specs.declared.pair.Pair.{Pair}
use Rattle.quota_settings_json.specs.ReadAttributes.{attributes}
use Rattle.quota_lines.specs.FieldNames as names

-- the names of an id with their values; none where they are absent
unfoldable pub bucket_id_in : Object → Said (Option (List Pair))
bucket_id_in o = do
  pairs ← take attributes names.bucket o
  place ← ends pairs.1
  says (Some (unwrap_or pairs.0 []))

-- an id as a kind of field
abbrev pub bucket_id : List ℕ → Data → Said (Option (List Pair))
bucket_id = kinds.and_read kinds.message bucket_id_in

-- at most 32 names, else 37 TooManyParts
unfoldable pub few_names : List ℕ → List Pair → Said (Option (List Pair))
few_names place pairs = if nat_lt MOST_PARTS (length pairs) then refuses TOO_MANY_PARTS place else says (Some pairs)
