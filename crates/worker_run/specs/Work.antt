-- What the workers of a run leave.
use Rattle.std.specs.Prelude.{◌≡◌, ℕ, ◌-◌, List, length, map}
use mathlib.Core.Option.{some}
use lib.ListN.{get_elem?}
use Rattle.counter_directory.specs.Acquired.{Bounds}
use Rattle.line_numbers.specs.Rising.{IsRising}
use Rattle.rate_limiter.specs.Passes.{LimiterView, PassView}
use Rattle.reply_text.specs.declared.record.Record.{Record}
use Rattle.script_run.specs.ScriptLine.{ScriptLine}
use Rattle.script_run.specs.Merged.{Merges}
use Rattle.worker_run.specs.Journal.{Journal}

-- Worker by worker there is a journal, whose records are the steps that brought its pass from what it was to what it is, in rising
-- order of their lines; the records are those of all journals, in the order of their lines.
pub record HaveRun (b : Bounds) (limiter : LimiterView) (start : ℕ) (lines : List ScriptLine) (before after : List PassView)
    (records : List Record) : Type 0 where
  pub journals : List (List Record)
  pub as_many : (length after ≡ length before) × (length journals ≡ length before)
  pub each : (w : ℕ) (p : PassView) (rs : List Record) (q : PassView) → get_elem? before w ≡ some p → get_elem? journals w ≡ some rs
      → get_elem? after w ≡ some q → Journal b limiter start w lines p rs q
  pub in_order : (w : ℕ) (rs : List Record) → get_elem? journals w ≡ some rs → IsRising (map (λ r. r.line - 1) rs)
  pub merges : Merges (length lines) journals records
