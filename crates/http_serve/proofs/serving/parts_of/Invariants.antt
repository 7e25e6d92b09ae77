use Rattle.std.proofs.Common.{◌≡◌, ◌≤◌, ◌+◌, ◌++◌, All, map, true, vec_len, vec_capacity, length}
use Rattle.http_serve.proofs.serving.parts_of.Given as goal

abbrev pub invariant-loop-worker : goal.invariant-loop-worker
invariant-loop-worker g l = record {
  whole_list : l.yielded ++ l.worker-iterator.rest.items ≡ l.fn.workers.items;
  takes : l.takes.items ≡ map (λ w. w.take) l.yielded;
  checks : l.checks.items ≡ map (λ w. w.checks) l.yielded;
  lists : l.lists.items ≡ map (λ w. w.served.items) l.yielded;
  whole : All (λ w. w.is_whole ≡ true) l.yielded;
  takes_room : vec_len l.takes + length l.worker-iterator.rest.items ≤ vec_capacity l.takes;
  checks_room : vec_len l.checks + length l.worker-iterator.rest.items ≤ vec_capacity l.checks;
  lists_room : vec_len l.lists + length l.worker-iterator.rest.items ≤ vec_capacity l.lists;
}
