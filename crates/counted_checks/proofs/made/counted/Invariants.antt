use Rattle.std.proofs.Common.{◌≡◌, ◌≤◌, ◌+◌, ◌++◌, length, map, vec_len, vec_capacity}
use Rattle.counted_checks.specs.Made.{begun, AreUnused}
use Rattle.counted_checks.proofs.made.counted.Given as goal

abbrev pub invariant-loop-each : goal.invariant-loop-each
invariant-loop-each g l = record {
  whole : l.yielded ++ l.each-iterator.rest.items ≡ l.fn.checks.items;
  room : vec_len l.made + length l.each-iterator.rest.items ≤ vec_capacity l.made;
  left : AreUnused (length l.each-iterator.rest.items) l.stats l.passes.items;
  made : l.made.items ≡ map (begun l.stats) l.yielded;
}
