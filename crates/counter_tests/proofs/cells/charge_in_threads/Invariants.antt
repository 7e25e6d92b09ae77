use Rattle.std.proofs.Common.{◌≡◌, [], All}
use Rattle.std.specs.Prelude.{IfSome}
use Rattle.counter_tests.proofs.cells.charge_in_threads.Given as goal

abbrev pub invariant-loop-charged : goal.invariant-loop-charged
invariant-loop-charged g l = record {
  bare : All (λ p. p.good ≡ []) l.passes.items;
  rest : All (λ o. IfSome o (λ c. c.pass.good ≡ [])) l.charged-iterator.rest.items;
}
