use Rattle.std.proofs.Common.{◌≡◌, ◌≤◌, None, replicate, vec_len, vec_capacity}
use Rattle.http_serve.proofs.merging.places_for.Given as goal

abbrev pub invariant-loop : goal.invariant-loop
invariant-loop g l = record {
  count : vec_len l.places ≡ l.counter;
  room : l.count ≤ vec_capacity l.places;
  none : l.places.items ≡ replicate l.counter None;
}
