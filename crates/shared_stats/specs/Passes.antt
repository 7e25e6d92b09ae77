-- What contracts see of shared statistics and of their passes.
use Rattle.std.specs.Prelude.{◌≡◌, ℕ, List, []}
use Rattle.atomic_table.specs.Seated.{TableId}
use Rattle.rls_core.specs.declared.status.Status.{Status}
use Rattle.rule_stats.specs.declared.numbers.RuleNumbers.{RuleNumbers}
use Rattle.rule_stats.specs.Statistics.{Note}
use Rattle.shared_stats.specs.Noted.{as_notes}
use Rattle.shared_stats.specs.declared.pass.StatsPass.{StatsPass}
use Rattle.shared_stats.specs.declared.shared_stats.SharedStats.{SharedStats}

-- which statistics these are, and of how many rules
abbrev pub stats_id : SharedStats → TableId × ℕ
stats_id stats = (stats.table.shared.table_id, stats.rules)

-- of how many rules they are
abbrev pub rules_of : SharedStats → ℕ
rules_of stats = stats.rules

-- how many passes were made
abbrev pub passes_of : SharedStats → ℕ
passes_of stats = stats.table.shared.key.passes

-- in which statistics a pass notes
abbrev pub stats_of : StatsPass → TableId × ℕ
stats_of pass = (pass.seat.table_id, pass.rules)

-- the statuses that a pass noted, each behind the hits of its descriptor, in order
abbrev pub noted_of : StatsPass → List (ℕ × Status)
noted_of pass = pass.notes.items

-- the same as notes, all of one version
abbrev pub notes_of : StatsPass → List Note
notes_of pass = as_notes (noted_of pass)

-- the numbers that a pass read, each with its rule, in order
abbrev pub reads_of : StatsPass → List (ℕ × RuleNumbers)
reads_of pass = pass.reads.items

-- a pass that has done nothing
pub record IsFresh (pass : StatsPass) : Type 0 where
  pub notes : pass.notes.items ≡ []
  pub reads : pass.reads.items ≡ []
