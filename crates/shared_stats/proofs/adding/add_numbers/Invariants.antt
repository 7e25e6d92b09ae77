use Rattle.std.proofs.Common.{◌≡◌, ◌+◌, ◌<◌, ℕ}
use Rattle.shared_stats.specs.Rule.{added_to}
use Rattle.shared_stats.specs.Words.{word_of}
use Rattle.shared_stats.specs.Adding.{Keeps, share}
use Rattle.shared_stats.proofs.adding.add_numbers.Given as goal

abbrev pub invariant-numbers : goal.invariant-numbers
invariant-numbers l = record {
  rest : Keeps l.initial.seat.table_id l.initial.seat.me l.seat.table_id l.seat.me;
  shares : (r p : ℕ) → p < 6 → added_to (word_of r p) l.seat.me.0.added
      ≡ added_to (word_of r p) l.initial.seat.me.0.added + share l.rule l.numbers l.place r p;
}
