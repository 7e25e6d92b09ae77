-- What a line of a stream says.
use Rattle.std.specs.Prelude.{ℕ, List, [], Bool, true, false, if◌then◌else◌, Option, Some, None}
use Rattle.serde_json.specs.Data.{Data}
use Rattle.rate_types.specs.declared.refusals.TheConstants.{TWO_EVENTS, NO_TIME}
use Rattle.proto_json.specs.Said.{Said, says, refuses, ◌>>=◌}
use Rattle.proto_json.specs.Fields.{Object, Placed, take, ends}
use Rattle.proto_json.specs.Kinds as kinds
use Rattle.proto_json.specs.Document.{document}
use Rattle.quota_lines.specs.FieldNames as names
use Rattle.quota_lines.specs.EventFields.{EventFields}
use Rattle.quota_lines.specs.ReadEvent as events
use Rattle.quota_lines.specs.declared.stream_line.StreamEvent.{StreamEvent}
use Rattle.quota_lines.specs.declared.stream_line.StreamEvent.TheVariants.{Passes}
use Rattle.quota_lines.specs.declared.stream_line.StreamLine.{StreamLine}

-- whether more than one of three is there
abbrev are_two : Option Placed → Option Placed → Option Placed → Bool
are_two None None connection = false
are_two (Some request) None None = false
are_two None (Some response) None = false
are_two request response connection = true

-- whether more than one of the three events is there
unfoldable pub has_two_events : EventFields → Bool
has_two_events e = are_two e.request e.response e.connection

-- at most one of the three events is there, else 28 TwoEvents
unfoldable pub one_event : List ℕ → EventFields → Said (Option (List ℕ))
one_event place e = if has_two_events e then refuses TWO_EVENTS place else says (Some place)

-- the moment that a value of a line says
abbrev pub moment_in : Placed → Said (Option ℕ)
moment_in v = kinds.duration v.place v.value

-- what the one of three that is there says; where none is there, time passes
abbrev one_of : Option Placed → Option Placed → Option Placed → Said (Option StreamEvent)
one_of (Some v) response connection = events.request v.place v.value
one_of None (Some v) connection = events.response v.place v.value
one_of None None (Some v) = events.connection v.place v.value
one_of None None None = says (Some Passes)

-- the event that is there
unfoldable pub event_in : EventFields → Said (Option StreamEvent)
event_in e = one_of e.request e.response e.connection

-- the line of a moment and an event, where both are there
abbrev pub line_at : Option ℕ → Option StreamEvent → Option StreamLine
line_at (Some at) (Some event) = Some (record { at = at; event = event })
line_at at event = None

-- the values of a line's fields in order
unfoldable pub line_of : Option Placed → EventFields → Said (Option StreamLine)
line_of at e = do
  moment ← kinds.read_some moment_in at
  event ← event_in e
  says (line_at moment event)

-- a line's own rules, 28 TwoEvents and 36 NoTime, and then the values of its fields
unfoldable pub line_rules : List ℕ → Option Placed → EventFields → Said (Option StreamLine)
line_rules place at e = do
  one ← one_event place e
  moment ← kinds.wanted NO_TIME place at
  line_of moment e

-- the three events, taken unread, and the other fields
unfoldable pub take_events : Object → Said (EventFields × Object)
take_events o = do
  request ← take kinds.any names.request o
  response ← take kinds.any names.response request.1
  connection ← take kinds.any names.connection response.1
  says (record { request = request.0; response = response.0; connection = connection.0 }, connection.1)

-- the three events and no other field; then the own rules, and then what the fields say
unfoldable pub after_moment : Option Placed → Object → Said (Option StreamLine)
after_moment at o = do
  e ← take_events o
  place ← ends e.1
  line_rules place at e.0

-- A line: its moment, taken unread, and what comes after it.
unfoldable pub line_in : Object → Said (Option StreamLine)
line_in o = do
  at ← take kinds.any names.at o
  after_moment at.0 at.1

-- a line at its place
unfoldable pub line_said : List ℕ → Data → Said (Option StreamLine)
line_said place d = kinds.message place d >>= kinds.read_some line_in

-- a line of a stream, by its bytes
unfoldable pub line : List ℕ → Said (Option StreamLine)
line bytes = document bytes >>= kinds.read_some (line_said [])
