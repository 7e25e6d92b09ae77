use Rattle.std.proofs.Common.{◌≡◌, [], All}
use Rattle.std.specs.Prelude.{IfSome}
use Rattle.counter_tests.proofs.cells.charge_all.Given as goal

abbrev pub invariant-loop-pass : goal.invariant-loop-pass
invariant-loop-pass g l = record {
  bare : All (λ p. p.good ≡ []) l.passes.items;
  rest : All (λ o. IfSome o (λ p. p.good ≡ [])) l.pass-iterator.rest.items;
}
