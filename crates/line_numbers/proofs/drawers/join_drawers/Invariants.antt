use Rattle.std.proofs.Common.{◌≡◌, [], ◌++◌}
use Rattle.line_numbers.specs.Joins.{JoinsDrawers}
use Rattle.line_numbers.proofs.drawers.join_drawers.Given as goal

abbrev pub invariant-loop-drawer : goal.invariant-loop-drawer
invariant-loop-drawer l = record {
  here : l.all.table_id ≡ l.shared.table_id;
  bare : l.all.me.1 ≡ [];
  whole : l.yielded ++ l.drawer-iterator.rest.items ≡ l.fn.drawers.items;
  joins : JoinsDrawers l.yielded l.all.me.0;
}
