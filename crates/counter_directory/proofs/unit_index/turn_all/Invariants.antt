use Rattle.std.proofs.Common.{◌≡◌}
use Rattle.std.specs.Prelude.{vec_len}
use Rattle.counter_directory.specs.Index.{Turns}
use Rattle.counter_directory.proofs.Indexing.{Along}
use Rattle.counter_directory.proofs.unit_index.turn_all.Given as goal

abbrev pub invariant-loop-place : goal.invariant-loop-place
invariant-loop-place l = record {
  four : vec_len l.units ≡ 4;
  along : Along (Turns l.moment) l.place l.initial.units.items l.units.items;
}
