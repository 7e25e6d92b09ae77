use Rattle.std.proofs.Common.{◌≡◌, ℕ, ◌≤◌, ◌<◌, get_or}
use mathlib.Core.Option.{some}
use lib.ListN.{get_elem?}
use Rattle.std.specs.Prelude.{vec_len, vec_capacity}
use Rattle.std.specs.Mem.Slots.{slots_items}
use Rattle.counter_cells.specs.WordIndex.{count_at}
use Rattle.counter_cells.proofs.cells.Cells.close.Given as goal

abbrev pub invariant-loop-cell : goal.invariant-loop-cell
invariant-loop-cell g l = record {
  len : vec_len l.counts ≡ l.cell;
  room : l.count ≤ vec_capacity l.counts;
  each : (i : ℕ) → i < l.cell → get_elem? (slots_items l.closed.words) (count_at i) ≡ some (get_or l.counts.items i 0);
}
