-- Inside: what a view that stands for several passes says of them.
use Rattle.std.specs.Prelude.{◌≡◌, ℕ, ◌≤◌, List, length, All}
use Rattle.rate_types.specs.Sums.{total}
use Rattle.shared_stats.specs.Rule.{added_to, greatest_at}
use Rattle.shared_stats.specs.declared.pass.StatsPass.{StatsPass}
use Rattle.shared_stats.specs.declared.rule.AdderView.{AdderView}

-- what a pass added to a word
abbrev pub added_by : ℕ → StatsPass → ℕ
added_by word p = added_to word p.seat.me.0.added

-- a view that stands for these passes
pub record JoinsPasses (passes : List StatsPass) (v : AdderView) : Type 0 where
  pub count : v.passes ≡ length passes
  pub added : (word : ℕ) → added_to word v.added ≡ total (added_by word) passes
  pub found : All (λ p. (word : ℕ) → greatest_at word p.seat.me.0.found ≤ greatest_at word v.found) passes
