-- What a body says, and the text of its refusal.
use Rattle.std.specs.Prelude.{ℕ, List, [], Option, Result, codes}
use Rattle.serde_json.specs.Data.{Data, object, member, no_members}
use Rattle.serde_json.specs.Written.{compact_text}
use Rattle.rate_types.specs.Requests.{RequestParts}
use Rattle.rate_types.specs.declared.refused.Refused.{Refused}
use Rattle.proto_json.specs.Said.{reading_of, ◌>>=◌}
use Rattle.proto_json.specs.Document.{document}
use Rattle.proto_json.specs.Kinds as kinds
use Rattle.reply_text.specs.ReadRequest.{request}

-- the request that a body is, or its first fault
unfoldable pub body_reading : List ℕ → Result (Option RequestParts) Refused
body_reading body = reading_of (document body >>= kinds.read_some (request []))

-- a refusal, by the value that says its place and its number
unfoldable pub refusal_data : Data → Data
refusal_data why = object (member (codes "refused") why no_members)

-- the text of a refusal
abbrev pub refusal_text : Data → List ℕ
refusal_text why = compact_text (refusal_data why)
