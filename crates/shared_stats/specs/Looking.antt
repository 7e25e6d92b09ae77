-- Inside: what reading leaves of a seat.
use Rattle.std.specs.Prelude.{◌≡◌, ℕ, ◌≤◌}
use Rattle.atomic_table.specs.Seated.{TableId}
use Rattle.atomic_table.specs.Table.{Me}
use Rattle.shared_stats.specs.declared.rule.AdderView.{AdderView}
use Rattle.shared_stats.specs.Rule.{greatest_at}

-- a seat changed nothing but what it found, which has all that it had
pub record Looked (before : TableId) (old : Me ℕ AdderView) (after : TableId) (new : Me ℕ AdderView) : Type 0 where
  pub table : after ≡ before
  pub added : new.0.added ≡ old.0.added
  pub found : (word : ℕ) → greatest_at word old.0.found ≤ greatest_at word new.0.found
  pub passes : new.0.passes ≡ old.0.passes
  pub slots : new.1 ≡ old.1
