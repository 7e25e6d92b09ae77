use Rattle.std.proofs.Common.{◌≡◌}
use Rattle.rate_types.specs.Sums.{total}
use Rattle.link_handover.specs.Passes.{TakesFrom, taken_by, is_end}
use Rattle.http_serve.proofs.worker.give_up.Given as goal

abbrev pub invariant-loop : goal.invariant-loop
invariant-loop g l = record {
  take : TakesFrom l.handover l.take;
  ends : total is_end (taken_by l.take) ≡ total is_end (taken_by l.fn.take);
}
