use Rattle.std.proofs.Common.{◌≡◌}
use Rattle.std.specs.Prelude.{vec_len, vec_capacity}
use Rattle.counter_directory.specs.Windows.{AreEmpty, AreRoomy}
use Rattle.counter_directory.proofs.ring.rings.Given as goal

abbrev pub invariant-loop-unit : goal.invariant-loop-unit
invariant-loop-unit l = record {
  len : vec_len l.rings ≡ l._unit;
  room : vec_capacity l.rings ≡ vec_capacity l.initial.rings;
  empty : AreEmpty l.rings.items;
  roomy : AreRoomy l.cells l.rings.items;
}
