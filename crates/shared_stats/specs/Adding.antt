-- Inside: what adding wants of a seat and leaves of it.
use Rattle.std.specs.Prelude.{◌≡◌, ℕ, ◌≤◌, ◌==◌, ltb, if◌then◌else◌}
use Rattle.atomic_table.specs.Seated.{TableId}
use Rattle.atomic_table.specs.Table.{Me}
use Rattle.rule_stats.specs.declared.numbers.RuleNumbers.{RuleNumbers}
use Rattle.shared_stats.specs.declared.rule.Setup.{Setup}
use Rattle.shared_stats.specs.declared.rule.AdderView.{AdderView}
use Rattle.shared_stats.specs.Words.{number_at}

-- a seat of this table, which stands for one pass
pub record IsOne (t : TableId) (o : Setup) (seat : TableId) (v : AdderView) : Type 0 where
  pub table : seat ≡ t
  pub words : t.words ≡ o.words
  pub one : v.passes ≡ 1

-- a seat changed nothing but what it added
pub record Keeps (before : TableId) (old : Me ℕ AdderView) (after : TableId) (new : Me ℕ AdderView) : Type 0 where
  pub table : after ≡ before
  pub found : new.0.found ≡ old.0.found
  pub passes : new.0.passes ≡ old.0.passes
  pub slots : new.1 ≡ old.1

-- none of the numbers is greater than this
pub record IsBound (most : ℕ) (n : RuleNumbers) : Type 0 where
  pub total : n.total ≤ most
  pub within : n.within ≤ most
  pub near : n.near ≤ most
  pub over : n.over ≤ most
  pub seen : n.seen ≤ most
  pub shadow : n.shadow ≤ most

-- the share of a word, once the numbers before a place were added to those of a rule
abbrev pub share : ℕ → RuleNumbers → ℕ → ℕ → ℕ → ℕ
share rule n place r p = if rule == r then (if ltb p place then number_at n p else 0) else 0
