-- Statuses that were noted, and numbers that were read.
use Rattle.std.specs.Prelude.{◌≡◌, ℕ, ◌≤◌, ◌<◌, ◌^◌, List, map, All}
use Rattle.rate_types.specs.Sums.{total}
use Rattle.rls_core.specs.declared.status.Status.{Status}
use Rattle.rule_stats.specs.declared.numbers.RuleNumbers.{RuleNumbers}
use Rattle.rule_stats.specs.Statistics.{Note}
use Rattle.rule_stats.specs.Sums.{sums}
use Rattle.shared_stats.specs.declared.rule.Amount.{Amount}
use Rattle.shared_stats.specs.Words.{numbers_added, numbers_found}

-- a status that was noted with the hits of its descriptor; all are of one version
abbrev pub note_of : ℕ × Status → Note
note_of x = record { version = 0; hits = x.0; status = x.1 }

-- statuses with their hits, as notes
abbrev pub as_notes : List (ℕ × Status) → List Note
as_notes xs = map note_of xs

-- the hits of all these notes
abbrev pub hits_in : List Note → ℕ
hits_in notes = total (λ n. n.hits) notes

-- no number is greater than the other's
pub record IsAtMost (x y : RuleNumbers) : Type 0 where
  pub total : x.total ≤ y.total
  pub within : x.within ≤ y.within
  pub near : x.near ≤ y.near
  pub over : x.over ≤ y.over
  pub seen : x.seen ≤ y.seen
  pub shadow : x.shadow ≤ y.shadow

-- what was added for each of so many rules is what these notes add, as long as they aren't more than a pass adds
abbrev pub AddsUp : ℕ → List Amount → List Note → Type 0
AddsUp rules added notes = hits_in notes ≤ 2 ^ 57 → (rule : ℕ) → rule < rules → numbers_added added rule ≡ sums 0 rule notes

-- each of these numbers, of one of so many rules, was found
abbrev pub AreFound : ℕ → List Amount → List (ℕ × RuleNumbers) → Type 0
AreFound rules found reads = All (λ t. (t.0 < rules) × IsAtMost t.1 (numbers_found found t.0)) reads
