-- What a line stands for.
use Rattle.std.specs.Arc.{arc_value}
use Rattle.descriptor_tree.specs.Views.{config_view}
use Rattle.script_run.specs.declared.line.Line.{Line}
use Rattle.script_run.specs.declared.line.Line.TheVariants.{Check, Reload, Tick, Bad}
use Rattle.script_run.specs.ScriptLine.{ScriptLine, check, reload, tick, bad}

-- what a line says
abbrev pub line_view : Line → ScriptLine
line_view (Check request) = check request
line_view (Reload config) = reload (config_view (arc_value config))
line_view (Tick now) = tick now
line_view (Bad refused) = bad refused
