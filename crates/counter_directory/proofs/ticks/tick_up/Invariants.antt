use Rattle.std.proofs.Common.{◌≡◌}
use Rattle.counter_cells.specs.Steps.{has_heard}
use Rattle.counter_directory.specs.Acquiring.{TicksSoFar}
use Rattle.counter_directory.proofs.ticks.tick_up.Given as goal

abbrev pub invariant-loop-round : goal.invariant-loop-round
invariant-loop-round g l = record {
  ticks : TicksSoFar l.initial.cell_pass l.cell_pass;
  claimer : l.claimer ≡ has_heard l.claimer.heard l.initial.claimer;
}
