use Rattle.std.proofs.Common.{◌≡◌}
use Rattle.std.specs.Prelude.{vec_len}
use Rattle.counter_directory.specs.Index.{FindsTheSame}
use Rattle.counter_directory.proofs.Indexing.{Along, RoomBelow}
use Rattle.counter_directory.proofs.unit_index.make_room.Given as goal

abbrev pub invariant-loop-place : goal.invariant-loop-place
invariant-loop-place l = record {
  four : vec_len l.units ≡ 4;
  along : Along FindsTheSame l.place l.initial.units.items l.units.items;
  room : RoomBelow l.place l.wanted l.units.items;
}
