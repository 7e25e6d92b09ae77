-- The fields of a line of a script.
use Rattle.proto_json.specs.Fields.{Name, spelled}
use Rattle.script_text.specs.declared.field_names.TheConstants as spellings

abbrev pub check : Name
check = spelled spellings.CHECK

abbrev pub reload : Name
reload = spelled spellings.RELOAD

abbrev pub tick : Name
tick = spelled spellings.TICK
