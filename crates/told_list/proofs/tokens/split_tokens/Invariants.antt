use Rattle.std.proofs.Common.{◌≡◌, ◌-◌, [], All, vec_len}
use Rattle.std.specs.Prelude.{vec_capacity}
use Rattle.told_list.specs.Rule.{idle_view}
use Rattle.told_list.specs.Tokens.{list_of, view, IsFresh}
use Rattle.told_list.proofs.tokens.split_tokens.Given as goal

abbrev pub invariant-loop : goal.invariant-loop
invariant-loop g l = record {
  table : l.seat.table_id ≡ l.initial.seat.table_id;
  me : l.seat.me ≡ (idle_view l.initial.seat.me.0.known (l.seats - l.counter), []);
  count : vec_len l.tokens ≡ l.counter;
  room : vec_capacity l.tokens ≡ vec_capacity l.initial.tokens;
  fresh : All (λ s. (list_of s ≡ l.shared.table_id) × IsFresh l.initial.seat.me.0.known (view s)) l.tokens.items;
}
