-- What the reading of a run answers.
use Rattle.std.specs.Prelude.{ℕ, List, map}
use Rattle.run_text.specs.Run.{IsRunText, IsWrongAt, IsNoRun}
use Rattle.run_text.specs.Views.{shown_of}
use Rattle.run_text.specs.declared.run.RunText.{RunText}
use Rattle.run_text.specs.declared.run.RunText.TheVariants.{Lines, Wrong}

-- the records and the totals whose texts the bytes are, or the first line that keeps them from being the text of any run
abbrev pub AnswersRun : List ℕ → RunText → Type 0
AnswersRun bytes (Lines records totals) = IsRunText bytes (map shown_of records.items) totals.items
AnswersRun bytes (Wrong line) = IsWrongAt bytes line × IsNoRun bytes
