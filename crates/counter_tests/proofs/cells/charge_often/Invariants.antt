use Rattle.std.proofs.Common.{◌≡◌, ◌≤◌, []}
use Rattle.std.specs.Prelude.{vec_len, vec_capacity}
use Rattle.counter_tests.proofs.cells.charge_often.Given as goal

abbrev pub invariant-loop-round : goal.invariant-loop-round
invariant-loop-round g l = record {
  bare : l.pass.good ≡ [];
  len : vec_len l.befores ≡ l.round;
  room : 100000 ≤ vec_capacity l.befores;
}
