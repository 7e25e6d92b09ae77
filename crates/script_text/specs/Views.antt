-- What a script stands for.
use Rattle.std.specs.Prelude.{List, map}
use Rattle.text_lines.specs.Lines.{cut}
use Rattle.script_run.specs.ScriptLine.{ScriptLine}
use Rattle.script_text.specs.Script.{line_of}
use Rattle.script_text.specs.declared.script.Script.{Script}

-- what its lines say, in order
unfoldable pub script_view : Script → List ScriptLine
script_view script = map line_of (cut script.bytes.now)
