use Rattle.std.proofs.Common.{◌≡◌, ◌-◌, [], All, vec_len, vec_capacity}
use Rattle.line_numbers.specs.Rule.{idle_view}
use Rattle.line_numbers.specs.Drawers.{IsFresh}
use Rattle.line_numbers.proofs.drawers.split_drawers.Given as goal

abbrev pub invariant-loop : goal.invariant-loop
invariant-loop l = record {
  table : l.seat.table_id ≡ l.initial.seat.table_id;
  me : l.seat.me ≡ (idle_view l.initial.seat.me.0.lines (l.drawers - l.counter), []);
  count : vec_len l.made ≡ l.counter;
  room : vec_capacity l.made ≡ vec_capacity l.initial.made;
  fresh : All (λ d. (d.seat.table_id ≡ l.shared.table_id) × (d.seat.me.0.lines ≡ l.initial.seat.me.0.lines) × IsFresh d) l.made.items;
}
