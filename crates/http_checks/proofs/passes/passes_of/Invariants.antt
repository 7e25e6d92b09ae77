use Rattle.std.proofs.Common.{◌≡◌, ◌≤◌, ◌+◌, ◌++◌, length, map, vec_len, vec_capacity}
use Rattle.http_checks.proofs.passes.passes_of.Given as goal

abbrev pub invariant-loop-check : goal.invariant-loop-check
invariant-loop-check g l = record {
  whole : l.yielded ++ l.check-iterator.rest.items ≡ l.fn.checks.items;
  room : vec_len l.passes + length l.check-iterator.rest.items ≤ vec_capacity l.passes;
  passes : l.passes.items ≡ map (λ c. c.pass) l.yielded;
  limiters : map (λ p. p.limiter) l.passes.items ≡ map (λ c. c.limiter.id) l.yielded;
}
