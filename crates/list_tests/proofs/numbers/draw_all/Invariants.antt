use Rattle.std.proofs.Common.{◌≡◌, ◌+◌, ◌≤◌, vec_len, vec_capacity}
use Rattle.line_numbers.specs.Batches.{batches_of}
use Rattle.list_tests.proofs.numbers.draw_all.Given as goal

abbrev pub invariant-loop : goal.invariant-loop
invariant-loop l = record {
  here : batches_of l.drawer ≡ batches_of l.initial.drawer;
  room : vec_len l.drawn + 10000 ≤ vec_capacity l.drawn + l.counter;
}
