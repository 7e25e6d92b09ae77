-- Inside: the counters that the checks of a run name, in order of the ends of their windows.
use Rattle.std.specs.Prelude.{◌≡◌, ℕ, ◌&&◌, nat_lt, nat_le, count_by, List, length, take, Option, None, Some, Bool, false}
use Rattle.std.specs.Bool.{Decides}
use Rattle.std.specs.List.Sorted.{IsNonDecreasingBy}
use Rattle.std.specs.Map.{lookup}
use Rattle.rate_types.specs.Counters.{same_counter}
use Rattle.rate_types.specs.declared.counter_key.CounterKey.{CounterKey}
use Rattle.descriptor_tree.specs.Trees.{DomainTree}
use Rattle.reply_text.specs.declared.record.Record.{Record}
use Rattle.reply_text.specs.declared.record.Outcome.{Outcome}
use Rattle.reply_text.specs.declared.record.Outcome.TheVariants.{Checked}
use Rattle.script_run.specs.ScriptLine.{ScriptLine}
use Rattle.script_run.specs.Named.{AreThere}
use Rattle.run_audit.specs.Asked.{is_asked, is_told_at}
use Rattle.run_audit.specs.declared.asked.Asked.{Asked}
use Rattle.run_audit.specs.declared.binder.Binder.{Binder}
use Rattle.run_audit.specs.declared.binder.Binder.TheVariants.{Nobody, One}
use Rattle.run_audit.specs.declared.by_end.Ended.{Ended}
use Rattle.run_audit.specs.declared.counter_by_end.CounterByEnd.{CounterByEnd}

-- counters in that order, with who bound each
abbrev pub Binders : Type 0
Binders = List (CounterByEnd × Binder)

-- who bound a counter, where it is among these
abbrev pub binder_at : Binders → CounterKey → Option Binder
binder_at binders c = lookup (λ k. same_counter c k.counter) binders

-- whether it is among these, and is asked for
abbrev pub is_asked_of : Asked → Option Binder → Bool
is_asked_of asked None = false
is_asked_of asked (Some binder) = is_asked asked binder

-- who bound the counters of an answered check, and of a refused one
abbrev pub binder_by : ℕ → ℕ → Outcome → Binder
binder_by worker line (Checked answer) = One worker line
binder_by worker line other = Nobody

-- the end of a counter's window, and who bound it
abbrev pub ended : CounterByEnd × Binder → Ended
ended e = record { end = e.0.end; binder = e.1 }

-- whether it is asked for, and its window ends after a moment
abbrev pub is_asked_at : Asked → ℕ → Ended → Bool
is_asked_at asked moment e = nat_lt moment e.end && is_asked asked e.binder

-- The ends of the windows of a run's counters, in their order: as many are asked for as counters.
pub record AreEnds (configs : ℕ → List DomainTree) (lines : List ScriptLine) (records : List Record) (ends : List Ended) : Type 0 where
  pub rising : IsNonDecreasingBy (λ (e : Ended). e.end) ends
  pub counted : (asked : Asked) (moment number : ℕ) → Decides (nat_le number (count_by (is_asked_at asked moment) ends))
      (AreThere (is_told_at asked configs lines records moment) number)

-- the first lines of a run with their records, beside the ends of the windows of its counters
pub record AreFirst (configs : ℕ → List DomainTree) (lines : List ScriptLine) (records : List Record)
    (before : List ScriptLine) (earlier : List Record) (ends : List Ended) : Type 0 where
  pub of_run : AreEnds configs lines records ends
  pub lines_first : before ≡ take (length before) lines
  pub records_first : earlier ≡ take (length before) records
