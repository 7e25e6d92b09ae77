use Rattle.std.proofs.Common.{ℕ, ◌<◌, length}
use Rattle.std.specs.Prelude.{slice_index_or}
use Rattle.quota_stream.specs.Tasks.{Task, GoesOn}
use Rattle.quota_stream.proofs.workers.turn_each.Given as goal

abbrev pub invariant-tasks : goal.invariant-tasks
invariant-tasks l = (k : ℕ) (d : Task) → k < length l.initial.tasks → GoesOn (slice_index_or l.initial.tasks k d) (slice_index_or l.tasks k d)
