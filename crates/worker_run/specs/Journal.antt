-- A worker's journal: the steps of its pass.
use Rattle.std.specs.Prelude.{◌≡◌, ℕ, ◌-◌, List, [], ◌∷◌, map, true}
use Rattle.counter_directory.specs.Acquired.{Bounds}
use Rattle.line_numbers.specs.Batches.{given, is_done}
use Rattle.line_numbers.specs.declared.batch_drawer.BatchDrawer.{BatchDrawer}
use Rattle.rate_limiter.specs.Passes.{LimiterView, PassView}
use Rattle.reply_text.specs.declared.record.Record.{Record}
use Rattle.script_run.specs.ScriptLine.{ScriptLine}
use Rattle.worker_run.specs.LineSteps.{IsRecordStep}

-- the records are steps, each from where the one before left the pass
abbrev pub Journal : Bounds → LimiterView → ℕ → ℕ → List ScriptLine → PassView → List Record → PassView → Type 0
Journal b limiter start worker lines p [] q = q ≡ p
Journal b limiter start worker lines p (r ∷ rs) q =
    (mid : PassView) × IsRecordStep b limiter start worker lines p r mid × Journal b limiter start worker lines mid rs q

-- The records of a journal are, in order, the steps of the worker's pass at the lines that it drew, and it drew until there were no more.
pub record HasWorked (b : Bounds) (limiter : LimiterView) (start worker : ℕ) (lines : List ScriptLine) (p : PassView) (rs : List Record)
    (q : PassView) (drawer : BatchDrawer) : Type 0 where
  pub same : q.limiter ≡ limiter.id
  pub journal : Journal b limiter start worker lines p rs q
  pub drawn : given drawer ≡ map (λ r. r.line - 1) rs
  pub told : is_done drawer ≡ true
