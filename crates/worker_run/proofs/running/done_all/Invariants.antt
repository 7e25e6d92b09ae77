use Rattle.std.proofs.Common.{◌≡◌, ◌≤◌, ◌+◌, ◌++◌, map, vec_len, length, Ok}
use Rattle.std.specs.Prelude.{vec_capacity}
use Rattle.worker_run.proofs.running.done_all.Given as goal

abbrev pub invariant-loop-worker : goal.invariant-loop-worker
invariant-loop-worker g l = record {
  whole : l.yielded ++ l.worker-iterator.rest.items ≡ l.fn.done.items;
  same : map Ok l.workers.items ≡ l.yielded;
  room : vec_len l.workers + length l.worker-iterator.rest.items ≤ vec_capacity l.workers;
}
