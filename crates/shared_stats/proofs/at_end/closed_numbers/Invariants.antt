use Rattle.std.proofs.Common.{◌≡◌, ◌≤◌, ◌<◌, ℕ, get_or}
use Rattle.std.specs.Prelude.{vec_len, vec_capacity}
use Rattle.std.specs.Mem.Slots.{slots_items}
use Rattle.rule_stats.specs.Statistics.{nothing}
use Rattle.shared_stats.specs.Words.{numbers_in}
use Rattle.shared_stats.proofs.at_end.closed_numbers.Given as goal

abbrev pub invariant-rules : goal.invariant-rules
invariant-rules l = record {
  len : vec_len l.numbers ≡ l.rule;
  room : l.rules ≤ vec_capacity l.numbers;
  each : (i : ℕ) → i < l.rule → get_or l.numbers.items i nothing ≡ numbers_in (slots_items l.closed.words) i;
}
