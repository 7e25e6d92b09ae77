use Rattle.std.proofs.Common.{◌≡◌, ◌≤◌, ◌+◌, ◌++◌, map, vec_len, length}
use Rattle.std.specs.Prelude.{vec_capacity}
use Rattle.config_versions.proofs.passes.tokens_of.Given as goal

abbrev pub invariant-loop-pass : goal.invariant-loop-pass
invariant-loop-pass g l = record {
  whole : l.yielded ++ l.pass-iterator.rest.items ≡ l.fn.passes.items;
  same : l.seats.items ≡ map (λ p. p.seen) l.yielded;
  room : vec_len l.seats + length l.pass-iterator.rest.items ≤ vec_capacity l.seats;
}
