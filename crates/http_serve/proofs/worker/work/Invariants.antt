use Rattle.std.proofs.Common.{◌≡◌, List, map}
use Rattle.link_handover.specs.Passes.{TakesFrom, numbers_taken}
use Rattle.http_endpoint.specs.Answers.{Asked}
use Rattle.http_serve.specs.Service.{AreServed}
use Rattle.http_serve.specs.Working.{ends_taken}
use Rattle.http_serve.proofs.worker.work.Given as goal

abbrev pub invariant-loop : goal.invariant-loop
invariant-loop g l = record {
  take : TakesFrom l.handover l.worker.take;
  ends : ends_taken l.worker ≡ 0;
  taken : numbers_taken l.worker.take ≡ map (λ s. s.number) l.worker.served.items;
  served : (asked : List Asked) × AreServed g.K.Checks.answers l.fn.worker.checks l.worker.served.items asked l.worker.checks;
}
