-- The lines of a script, and what each of them reads as.
use Rattle.std.specs.Prelude.{ℕ, List, [], ◌++◌, map, Option, Some, None, Result, Ok, Err}
use Rattle.text_lines.specs.Lines.{cut}
use Rattle.serde_json.specs.Data.{Data}
use Rattle.rate_types.specs.Places.{item}
use Rattle.rate_types.specs.declared.refused.Refused.{Refused}
use Rattle.rate_types.specs.declared.refused.At.{At}
use Rattle.rate_types.specs.declared.limits.TheConstants.{LATEST_MOMENT}
use Rattle.rate_types.specs.declared.refusals.TheConstants.{NO_EVENT, TWO_EVENTS}
use Rattle.proto_json.specs.Said.{Said, said, says, refuses, reading_of, ◌>>=◌}
use Rattle.proto_json.specs.Fields.{Object, Listed, Placed, take, ends}
use Rattle.proto_json.specs.Kinds as kinds
use Rattle.proto_json.specs.Lists.{each_item}
use Rattle.proto_json.specs.Document.{document}
use Rattle.descriptor_tree.specs.Trees.{DomainTree}
use Rattle.descriptor_tree.specs.Faults.{config_faults}
use Rattle.config_json.specs.Trees.{file_at}
use Rattle.reply_text.specs.ReadRequest.{request}
use Rattle.script_text.specs.FieldNames as names
use Rattle.script_run.specs.ScriptLine.{ScriptLine, check, reload, tick, bad}

-- ---- the events

-- a request
unfoldable pub check_in : Placed → Said (Option ScriptLine)
check_in v = request v.place v.value >>= kinds.read_some (λ r. says (Some (check r)))

-- a moment: a whole number of at most 1,000,000,000,000, above that 7 NumberRange
unfoldable pub tick_in : Placed → Said (Option ScriptLine)
tick_in v = kinds.whole LATEST_MOMENT v.place v.value >>= kinds.read_some (λ moment. says (Some (tick moment)))

-- a fault of a file's tree, in a list of files at this place
abbrev pub in_list : List ℕ → At → Refused
in_list place at = record { at = item place at.file ++ at.refused.at; number = at.refused.number }

-- the trees of a list of files at this place, and the faults of a configuration of them
unfoldable pub config_of : List ℕ → List DomainTree → Said (Option ScriptLine)
config_of place trees = said (map (in_list place) (config_faults trees)) (Some (reload trees))

-- a configuration: a list of its files as objects
unfoldable pub configs_in : Listed → Said (Option ScriptLine)
configs_in list = each_item file_at list >>= kinds.read_some (config_of list.place)

-- such a list in a line
unfoldable pub reload_in : Placed → Said (Option ScriptLine)
reload_in v = kinds.list v.place v.value >>= kinds.read_some configs_in

-- ---- a line

-- The event of the one field that is there. The own rules, which are tried before these fields are read: 27 NoEvent where
-- none is there, 28 TwoEvents where more than one is.
abbrev pub one_event : List ℕ → Option Placed → Option Placed → Option Placed → Said (Option ScriptLine)
one_event place None None None = refuses NO_EVENT place
one_event place (Some v) None None = check_in v
one_event place None (Some v) None = reload_in v
one_event place None None (Some v) = tick_in v
one_event place first second third = refuses TWO_EVENTS place

-- the fields that are there, each name that is none of theirs, and then the event
unfoldable pub line_in : Object → Said (Option ScriptLine)
line_in o = do
  c ← take kinds.any names.check o
  r ← take kinds.any names.reload c.1
  t ← take kinds.any names.tick r.1
  place ← ends t.1
  one_event place c.0 r.0 t.0

-- a line's object at its place
abbrev pub line_at : List ℕ → Data → Said (Option ScriptLine)
line_at = kinds.and_read kinds.message line_in

-- a line's bytes: 1 BadJson, or what their object says
unfoldable pub line : List ℕ → Said (Option ScriptLine)
line bytes = document bytes >>= kinds.read_some (line_at [])

-- what a line says by its reading: its event, which is there where the line has no fault, or its refusal
abbrev pub said_by : Result (Option ScriptLine) Refused → ScriptLine
said_by (Ok (Some event)) = event
said_by (Ok None) = bad (record { at = []; number = NO_EVENT })
said_by (Err refused) = bad refused

-- A line by its bytes. One that is refused is a line too.
abbrev pub line_of : List ℕ → ScriptLine
line_of bytes = said_by (reading_of (line bytes))

-- The script of these bytes: what each of its lines says.
abbrev pub script_of : List ℕ → List ScriptLine
script_of bytes = map line_of (cut bytes)
