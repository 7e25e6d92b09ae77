-- The values of the three fields of a line of which one may hold its event.
use Rattle.std.specs.Prelude.{Option, option_map}
use Rattle.proto_json.specs.Fields.{Placed}
use Rattle.proto_json.specs.Held.{placed_of}
use Rattle.quota_lines.specs.declared.event_fields.EventFields as declared

-- each where it is there
pub record EventFields : Type 0 where
  pub request : Option Placed
  pub response : Option Placed
  pub connection : Option Placed

-- those that the code holds
abbrev pub fields_of : declared.EventFields → EventFields
fields_of e = record {
  request = option_map placed_of e.request;
  response = option_map placed_of e.response;
  connection = option_map placed_of e.connection;
}
