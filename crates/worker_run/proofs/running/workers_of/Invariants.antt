use Rattle.std.proofs.Common.{◌≡◌, ◌≤◌, ◌+◌, ◌++◌, All, map, length, vec_len}
use Rattle.std.specs.Prelude.{vec_capacity}
use Rattle.std.specs.List.{AllByRecursion}
use Rattle.line_numbers.specs.Batches.{batches_id, batches_of, IsNew}
use Rattle.worker_run.specs.Parts.{AreWorkers}
use Rattle.worker_run.proofs.running.workers_of.Given as goal

abbrev pub invariant-loop-pass : goal.invariant-loop-pass
invariant-loop-pass g l = record {
  same : map (λ w. w.pass) l.workers.items ++ l.pass-iterator.rest.items ≡ l.fn.passes.items;
  number : l.number ≡ length l.workers.items;
  left : vec_len l.drawers ≡ length l.pass-iterator.rest.items;
  few : vec_len l.workers + length l.pass-iterator.rest.items ≤ 64;
  room : vec_len l.workers + length l.pass-iterator.rest.items ≤ vec_capacity l.workers;
  passes : AllByRecursion (λ p. p.limiter ≡ l.limiter.id) l.pass-iterator.rest.items;
  drawers : All (λ d. (batches_of d ≡ batches_id l.numbers) × IsNew d) l.drawers.items;
  workers : AreWorkers l.limiter.id (batches_id l.numbers) 0 l.workers.items;
}
