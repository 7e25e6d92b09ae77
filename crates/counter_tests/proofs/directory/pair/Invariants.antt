use Rattle.std.proofs.Common.{◌≡◌, [], All}
use Rattle.counter_directory.specs.Passes.{list_of}
use Rattle.counter_tests.proofs.directory.pair.Given as goal

abbrev pub invariant-loop-cell_pass : goal.invariant-loop-cell_pass
invariant-loop-cell_pass g l = record {
  workers : All (λ w. (w.cell_pass.good ≡ []) × (list_of w.pass ≡ l.directory.list_id)) l.workers.items;
  rest : All (λ h. h.good ≡ []) l.cell_pass-iterator.rest.items;
  passes : All (λ p. list_of p ≡ l.directory.list_id) l.passes.items;
}
