use Rattle.std.proofs.Common.{◌≡◌, []}
use Rattle.counter_directory.specs.Passes.{list_of}
use Rattle.counter_tests.proofs.directory.threads.take_often.Given as goal

abbrev pub invariant-loop-round : goal.invariant-loop-round
invariant-loop-round g l = record {
  pass : list_of l.worker.pass ≡ l.directory.list_id;
  cell_pass : l.worker.cell_pass.good ≡ [];
}
