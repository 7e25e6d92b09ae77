use Rattle.std.proofs.Common.{◌≡◌, ◌≤◌, ◌+◌, ◌++◌, map, vec_len, length}
use Rattle.std.specs.Prelude.{vec_capacity}
use Rattle.line_numbers.proofs.batch_drawers.single_drawers.Given as goal

abbrev pub invariant-loop-drawer : goal.invariant-loop-drawer
invariant-loop-drawer l = record {
  whole : l.yielded ++ l.drawer-iterator.rest.items ≡ l.fn.drawers.items;
  singles : l.singles.items ≡ map (λ d. d.drawer) l.yielded;
  room : vec_len l.singles + length l.drawer-iterator.rest.items ≤ vec_capacity l.singles;
}
