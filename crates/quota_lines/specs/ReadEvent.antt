-- What the three events of a stream line say.
use Rattle.std.specs.Prelude.{ℕ, List, [], if◌then◌else◌, Option, Some, None, unwrap_or, codes}
use Rattle.std.specs.Str.{bytes_eq}
use Rattle.serde_json.specs.Data.{Data}
use Rattle.serde_json.specs.Find.{as_str}
use Rattle.rate_types.specs.declared.refusals.TheConstants.{WRONG_KIND, UNKNOWN_NAME}
use Rattle.proto_json.specs.Said.{Said, says, refuses, ◌>>=◌}
use Rattle.proto_json.specs.Fields.{Object, take, ends}
use Rattle.proto_json.specs.Kinds as kinds
use Rattle.proto_json.specs.Lists.{each_item}
use Rattle.quota_settings_json.specs.ReadAttributes.{attributes}
use Rattle.quota_lines.specs.FieldNames as names
use Rattle.quota_lines.specs.Actions.{OneAction}
use Rattle.quota_lines.specs.ReadAction.{action}
use Rattle.quota_lines.specs.declared.stream_line.Connection.TheVariants.{Lost, Up}
use Rattle.quota_lines.specs.declared.stream_line.StreamEvent.{StreamEvent}
use Rattle.quota_lines.specs.declared.stream_line.StreamEvent.TheVariants.{Request, Response, Connection}

-- a request's one field; where its attributes are absent it has none
unfoldable pub request_in : Object → Said (Option StreamEvent)
request_in o = do
  pairs ← take attributes names.attributes o
  place ← ends pairs.1
  says (Some (Request (unwrap_or pairs.0 [])))

-- a request as a kind of value
abbrev pub request : List ℕ → Data → Said (Option StreamEvent)
request = kinds.and_read kinds.message request_in

-- a list of actions as a kind of field
abbrev pub actions : List ℕ → Data → Said (Option (List OneAction))
actions = kinds.and_read kinds.list (each_item action)

-- the one field of the server's message: its actions in order
unfoldable pub response_in : Object → Said (Option StreamEvent)
response_in o = do
  all ← take actions names.bucket_action o
  place ← ends all.1
  says (Some (Response (unwrap_or all.0 [])))

-- the server's message as a kind of value
abbrev pub response : List ℕ → Data → Said (Option StreamEvent)
response = kinds.and_read kinds.message response_in

-- LOST or UP; another name is 8 UnknownName, no name 5 WrongKind
unfoldable pub connection_named : List ℕ → Option (List ℕ) → Said (Option StreamEvent)
connection_named place None = refuses WRONG_KIND place
connection_named place (Some name) = if bytes_eq name (codes "LOST") then says (Some (Connection Lost))
    else (if bytes_eq name (codes "UP") then says (Some (Connection Up)) else refuses UNKNOWN_NAME place)

-- what happened to the stream, as a kind of value
abbrev pub connection : List ℕ → Data → Said (Option StreamEvent)
connection place d = connection_named place (as_str d)
