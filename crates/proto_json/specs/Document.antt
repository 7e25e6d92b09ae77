-- The JSON value that bytes are.
use Rattle.std.specs.Prelude.{ℕ, List, [], if◌then◌else◌, Option, Some, None}
use Rattle.std.specs.Str.{is_utf8}
use Rattle.serde_json.specs.Data.{Data}
use Rattle.serde_json.specs.Read.{read}
use Rattle.rate_types.specs.declared.refusals.TheConstants.{BAD_JSON}
use Rattle.proto_json.specs.Said.{Said, says, refuses}

-- the JSON value of these bytes; none where they aren't UTF-8 or no JSON
unfoldable pub json_of : List ℕ → Option Data
json_of bytes = if is_utf8 bytes then read bytes else None

-- this value, or 1 BadJson where there is none
abbrev pub json_said : Option Data → Said (Option Data)
json_said None = refuses BAD_JSON []
json_said (Some d) = says (Some d)

-- the value, or 1 BadJson at the empty place where the bytes are no JSON
unfoldable pub document : List ℕ → Said (Option Data)
document bytes = json_said (json_of bytes)
