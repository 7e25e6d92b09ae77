use Rattle.std.proofs.Common.{◌≡◌, ◌++◌, length}
use Rattle.counter_cells.specs.Seats.{IsBareSeatOf}
use Rattle.counter_cells.specs.InnerSteps.{all_joined}
use Rattle.counter_cells.proofs.cells.close.join_passes.Given as goal

abbrev pub invariant-loop-pass : goal.invariant-loop-pass
invariant-loop-pass g l = record {
  here : IsBareSeatOf g.N.CellNaming.table l.claimer;
  joined : l.claimer.me.0 ≡ all_joined l.initial.claimer.me.0 l.yielded;
  numbers : length l.claimer.me.0.numbers ≡ length l.yielded;
  all : l.yielded ++ l.pass-iterator.rest.items ≡ l.fn.passes.items;
}
