-- One record for each line.
use Rattle.std.specs.Prelude.{◌≡◌, ℕ, ◌+◌, ◌<◌, List, length, ⊤}
use Rattle.reply_text.specs.declared.record.Record.{Record}
use Rattle.reply_text.specs.declared.record.Outcome.{Outcome}
use Rattle.reply_text.specs.declared.record.Outcome.TheVariants as outcome
use Rattle.script_run.specs.ScriptLine.{ScriptLine, check, reload, tick, bad}
use Rattle.script_run.specs.Lines.{EachLine}

-- what came of a line is of its kind: only a check is answered or refused for want of cells or claims, only a reload installed or
-- refused for the versions that there are, only a tick ticked, and a bad line shows its own refusal
abbrev pub IsOfKind : ScriptLine → Outcome → Type 0
IsOfKind (check request) (outcome.Checked answer) = ⊤
IsOfKind (check request) (outcome.Full live held wanted) = ⊤
IsOfKind (check request) (outcome.Spent claims wanted) = ⊤
IsOfKind (reload config) outcome.Installed = ⊤
IsOfKind (reload config) (outcome.VersionsFull versions) = ⊤
IsOfKind (tick now) (outcome.Ticked shown) = ⊤
IsOfKind (bad refused) (outcome.Bad shown) = shown ≡ refused
IsOfKind line other = ⊥

-- a record has its line's number, counted from 1, one of the workers, and an outcome of the line's kind
pub record IsRecordOf (workers : ℕ) (before : List ScriptLine) (l : ScriptLine) (r : Record) : Type 0 where
  pub numbered : r.line ≡ length before + 1
  pub by_worker : r.worker < workers
  pub kind : IsOfKind l r.outcome

-- There are as many records as lines, and each is that of the line at its place.
pub record OneRecordPerLine (workers : ℕ) (lines : List ScriptLine) (records : List Record) : Type 0 where
  pub as_many : length records ≡ length lines
  pub each : EachLine lines records (λ before earlier l r. IsRecordOf workers before l r)
