use Rattle.std.proofs.Common.{◌≡◌, ◌-◌, [], All, vec_len, vec_capacity}
use Rattle.shared_stats.specs.Rule.{idle_view}
use Rattle.shared_stats.specs.Passes.{IsFresh}
use Rattle.shared_stats.proofs.passes.split_passes.Given as goal

abbrev pub invariant-loop : goal.invariant-loop
invariant-loop l = record {
  table : l.seat.table_id ≡ l.fn.seat.table_id;
  me : l.seat.me ≡ (idle_view (l.passes - l.counter), []);
  count : vec_len l.made ≡ l.counter;
  room : vec_capacity l.made ≡ vec_capacity l.initial.made;
  fresh : All (λ p. (p.seat.table_id ≡ l.shared.table_id) × (p.rules ≡ l.rules) × IsFresh p) l.made.items;
}
