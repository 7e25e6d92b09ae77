use Rattle.std.proofs.Common.{◌≡◌, ◌≤◌, ◌+◌, ◌++◌, map, vec_len, length}
use Rattle.std.specs.Prelude.{vec_capacity}
use Rattle.worker_run.proofs.running.parts_of.Given as goal

abbrev pub invariant-loop-worker : goal.invariant-loop-worker
invariant-loop-worker g l = record {
  passes : l.passes.items ++ map (λ w. w.pass) l.worker-iterator.rest.items ≡ map (λ w. w.pass) l.fn.workers.items;
  drawers : l.drawers.items ++ map (λ w. w.drawer) l.worker-iterator.rest.items ≡ map (λ w. w.drawer) l.fn.workers.items;
  journals : l.journals.items ++ map (λ w. w.journal) l.worker-iterator.rest.items ≡ map (λ w. w.journal) l.fn.workers.items;
  tallies : l.tallies.items ++ map (λ w. w.tally) l.worker-iterator.rest.items ≡ map (λ w. w.tally) l.fn.workers.items;
  passes_room : vec_len l.passes + length l.worker-iterator.rest.items ≤ vec_capacity l.passes;
  drawers_room : vec_len l.drawers + length l.worker-iterator.rest.items ≤ vec_capacity l.drawers;
  journals_room : vec_len l.journals + length l.worker-iterator.rest.items ≤ vec_capacity l.journals;
  tallies_room : vec_len l.tallies + length l.worker-iterator.rest.items ≤ vec_capacity l.tallies;
}
