use Rattle.std.proofs.Common.{◌≡◌, ℕ, drop}
use Rattle.counter_cells.specs.Views.{good_on}
use Rattle.counter_directory.specs.Spots.{spots_on, LeavesAllButPins}
use Rattle.counter_directory.proofs.pins.give_back.Given as goal

abbrev pub invariant-loop-spot : goal.invariant-loop-spot
invariant-loop-spot g l = record {
  left : (k : ℕ) → good_on k l.cell_pass ≡ spots_on k (drop l.spot-index l.spots);
  rest : LeavesAllButPins l.initial.cell_pass l.cell_pass;
}
