-- Inside: the parts of a run.
use Rattle.std.specs.Prelude.{◌≡◌, ℕ, suc, List, [], ◌∷◌, Bool}
use Rattle.counter_directory.specs.Acquired.{Bounds}
use Rattle.line_numbers.specs.Batches.{BatchesId, batches_of, IsNew}
use Rattle.rate_limiter.specs.Passes.{LimiterId, LimiterView}
use Rattle.script_run.specs.ScriptLine.{ScriptLine}
use Rattle.run_stats.specs.RunStats.{HasCounted}
use Rattle.worker_run.specs.Journal.{HasWorked}
use Rattle.worker_run.specs.declared.working.Worker.{Worker}
use Rattle.worker_run.specs.declared.working.Worked.{Worked}

module _ {N : Type 0} where
  -- a worker of the limiter, which draws these numbers and has drawn none
  pub record IsReady (limiter : LimiterId) (numbers : BatchesId) (worker : Worker N) : Type 0 where
    pub pass : worker.pass.limiter ≡ limiter
    pub drawer : batches_of worker.drawer ≡ numbers
    pub fresh : IsNew worker.drawer

  -- workers with the numbers from this one on
  abbrev pub AreWorkers : LimiterId → BatchesId → ℕ → List (Worker N) → Type 0
  AreWorkers limiter numbers n [] = Unit {0}
  AreWorkers limiter numbers n (w ∷ ws) = (w.number ≡ n) × IsReady limiter numbers w × AreWorkers limiter numbers (suc n) ws

  -- what a worker left when it was done, where its answered checks were counted or not
  abbrev pub IsDone : Bool → Bounds → LimiterView → ℕ → List ScriptLine → BatchesId → Worker N → Worked N → Type 0
  IsDone stats b limiter start lines numbers w v =
      (batches_of v.drawer ≡ numbers) × HasWorked b limiter start w.number lines w.pass v.journal v.pass v.drawer
      × HasCounted stats lines v.journal v.tally

  -- each worker is done
  abbrev pub AreDone : Bool → Bounds → LimiterView → ℕ → List ScriptLine → BatchesId → List (Worker N) → List (Worked N) → Type 0
  AreDone stats b limiter start lines numbers [] [] = Unit {0}
  AreDone stats b limiter start lines numbers (w ∷ ws) (v ∷ vs) = IsDone stats b limiter start lines numbers w v
      × AreDone stats b limiter start lines numbers ws vs
  AreDone stats b limiter start lines numbers ws vs = ⊥
