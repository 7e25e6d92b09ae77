use Rattle.std.proofs.Common.{◌≡◌, []}
use Rattle.counter_directory.specs.Passes.{list_of}
use Rattle.counter_tests.proofs.directory.threads.take_in_some_window.Given as goal

abbrev pub invariant-loop : goal.invariant-loop
invariant-loop g l = record {
  pass : list_of l.worker.pass ≡ l.directory.list_id;
  cell_pass : l.worker.cell_pass.good ≡ [];
}
