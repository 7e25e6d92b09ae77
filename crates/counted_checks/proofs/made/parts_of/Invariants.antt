use Rattle.std.proofs.Common.{◌≡◌, ◌≤◌, ◌+◌, ◌++◌, length, map, vec_len, vec_capacity}
use Rattle.std.specs.List.{filter_map}
use Rattle.counted_checks.specs.Made.{AreGivenBack}
use Rattle.counted_checks.proofs.made.parts_of.Given as goal

abbrev pub invariant-loop-each : goal.invariant-loop-each
invariant-loop-each g l = record {
  whole : l.yielded ++ l.each-iterator.rest.items ≡ l.fn.counted.items;
  room : vec_len l.checks + length l.each-iterator.rest.items ≤ vec_capacity l.checks;
  space : vec_len l.passes + length l.each-iterator.rest.items ≤ vec_capacity l.passes;
  checks : l.checks.items ≡ map (λ c. c.checks) l.yielded;
  passes : AreGivenBack l.passes.items (filter_map (λ c. c.stats) l.yielded);
}
