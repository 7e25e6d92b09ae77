use Rattle.std.proofs.Common.{◌≡◌, ◌≤◌, ◌+◌, ◌++◌, length, vec_len, vec_capacity}
use Rattle.http_checks.specs.Made.{checkers}
use Rattle.http_checks.proofs.passes.checks_of.Given as goal

abbrev pub invariant-loop-pass : goal.invariant-loop-pass
invariant-loop-pass g l = record {
  whole : l.yielded ++ l.pass-iterator.rest.items ≡ l.fn.passes.items;
  room : vec_len l.checks + length l.pass-iterator.rest.items ≤ vec_capacity l.checks;
  made : l.checks.items ≡ checkers l.limiter l.yielded;
}
