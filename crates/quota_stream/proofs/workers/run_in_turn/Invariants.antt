use Rattle.std.proofs.Common.{ℕ, ◌<◌, length}
use Rattle.std.specs.Prelude.{slice_index_or}
use Rattle.quota_stream.specs.Tasks.{Task, GoesOn}
use Rattle.quota_stream.proofs.workers.run_in_turn.Given as goal

abbrev pub invariant-turns : goal.invariant-turns
invariant-turns l = (k : ℕ) (d : Task) → k < length l.initial.tasks → GoesOn (slice_index_or l.initial.tasks k d) (slice_index_or l.tasks k d)
