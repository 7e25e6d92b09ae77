use Rattle.std.proofs.Common.{◌≡◌, ◌≤◌, ◌+◌, ◌++◌, [], All, map, length, vec_len, vec_capacity}
use Rattle.link_handover.specs.Passes.{TakesFrom, taken_by}
use Rattle.http_serve.specs.Working.{IsReady}
use Rattle.http_serve.proofs.serving.workers_of.Given as goal

abbrev pub invariant-loop-check : goal.invariant-loop-check
invariant-loop-check g l = record {
  same : map (λ w. w.checks) l.workers.items ++ l.check-iterator.rest.items ≡ l.fn.checks.items;
  left : vec_len l.takes ≡ length l.check-iterator.rest.items;
  room : vec_len l.workers + length l.check-iterator.rest.items ≤ vec_capacity l.workers;
  takes : All (λ t. TakesFrom l.handover t × (taken_by t ≡ [])) l.takes.items;
  ready : All (λ w. IsReady l.handover w) l.workers.items;
}
