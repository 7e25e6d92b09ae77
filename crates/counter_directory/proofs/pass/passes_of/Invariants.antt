use Rattle.std.proofs.Common.{◌≡◌, ◌≤◌, ◌+◌, ◌++◌, map, vec_len, length}
use Rattle.std.specs.Prelude.{vec_capacity}
use Rattle.counter_directory.specs.Tokens.{pass_of}
use Rattle.counter_directory.proofs.pass.passes_of.Given as goal

abbrev pub invariant-loop-seen : goal.invariant-loop-seen
invariant-loop-seen g l = record {
  whole : l.yielded ++ l.seen-iterator.rest.items ≡ l.fn.tokens.items;
  same : l.passes.items ≡ map pass_of l.yielded;
  room : vec_len l.passes + length l.seen-iterator.rest.items ≤ vec_capacity l.passes;
}
