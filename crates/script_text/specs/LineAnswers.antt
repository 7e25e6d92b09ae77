-- Inside: what a reader of a line answers.
use Rattle.std.specs.Prelude.{◌≡◌, Option, Some, Result, Ok, Err}
use Rattle.rate_types.specs.Reading.{IsRefusal}
use Rattle.rate_types.specs.declared.fault.Fault.{Fault}
use Rattle.rate_types.specs.declared.refused.Refused.{Refused}
use Rattle.script_run.specs.declared.line.Line.{Line}
use Rattle.script_run.specs.ScriptLine.{ScriptLine}
use Rattle.script_run.specs.Views.{line_view}

-- a line says what was read, and a refusal is the reading; want of memory may come with any reading
abbrev pub AnswersLine : Result Line (Fault Refused) → Result (Option ScriptLine) Refused → Type 0
AnswersLine (Ok line) reading = reading ≡ Ok (Some (line_view line))
AnswersLine (Err e) reading = IsRefusal e reading
