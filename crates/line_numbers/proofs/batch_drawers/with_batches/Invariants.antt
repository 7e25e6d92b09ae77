use Rattle.std.proofs.Common.{◌≡◌, ◌≤◌, ◌+◌, ◌++◌, All, vec_len, length}
use Rattle.std.specs.Prelude.{vec_capacity}
use Rattle.line_numbers.specs.Drawers.{numbers_id}
use Rattle.line_numbers.specs.Batches.{batches_of, IsNew}
use Rattle.line_numbers.proofs.batch_drawers.with_batches.Given as goal

abbrev pub invariant-loop-drawer : goal.invariant-loop-drawer
invariant-loop-drawer l = record {
  whole : l.yielded ++ l.drawer-iterator.rest.items ≡ l.fn.drawers.items;
  count : vec_len l.made ≡ length l.yielded;
  room : vec_len l.made + length l.drawer-iterator.rest.items ≤ vec_capacity l.made;
  fresh : All (λ d. (batches_of d ≡ (numbers_id l.numbers, l.lines, l.size)) × IsNew d) l.made.items;
}
