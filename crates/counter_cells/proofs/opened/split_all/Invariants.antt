use Rattle.std.proofs.Common.{◌≡◌, ◌++◌, ◌-◌, ◌≤◌, []}
use Rattle.std.specs.Prelude.{vec_len, vec_capacity}
use Rattle.counter_cells.specs.Steps.{claimer_left, new_passes}
use Rattle.counter_cells.proofs.opened.split_all.Given as goal

abbrev pub invariant-loop-done : goal.invariant-loop-done
invariant-loop-done g l = record {
  here : l.claimer.table_id ≡ g.N.CellNaming.table;
  left : l.claimer.me ≡ (claimer_left g.N.CellNaming.setup (l.fn.passes - l.done), []);
  made : l.made.items ++ new_passes (l.fn.passes - l.done) l.fn.start ≡ new_passes l.fn.passes l.fn.start;
  len : vec_len l.made ≡ l.done;
  room : l.fn.passes ≤ vec_capacity l.made;
}
