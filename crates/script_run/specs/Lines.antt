-- Facts about each line of a script and its record.
use Rattle.std.specs.Prelude.{◌≡◌, ℕ, ◌≤◌, List, take, slice_get, Some}
use Rattle.std.specs.List.{AllByRecursion}
use Rattle.reply_text.specs.declared.record.Record.{Record}
use Rattle.script_run.specs.ScriptLine.{ScriptLine}

-- a fact about each line and its record, and about the lines and records before them
abbrev pub EachLine : List ScriptLine → List Record → (List ScriptLine → List Record → ScriptLine → Record → Type 0) → Type 0
EachLine lines records Fact = (i : ℕ) (l : ScriptLine) (r : Record) → slice_get lines i ≡ Some l → slice_get records i ≡ Some r
    → Fact (take i lines) (take i records) l r

-- what a record shows is at least what each earlier record of its worker shows
abbrev pub IsAtLeastEarlier : (Record → ℕ) → List Record → Record → Type 0
IsAtLeastEarlier number earlier r = AllByRecursion (λ e. e.worker ≡ r.worker → number e ≤ number r) earlier
