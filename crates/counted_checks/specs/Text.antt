-- The statistics as a text.
use Rattle.std.specs.Prelude.{◌≡◌, ℕ, ◌<◌, ◌≤◌, ◌^◌, List, length, get_or}
use Rattle.rate_types.specs.declared.limits.TheConstants.{MOST_NODES}
use Rattle.rule_stats.specs.declared.numbers.RuleNumbers.{RuleNumbers}
use Rattle.rule_stats.specs.Statistics.{Note, nothing}
use Rattle.rule_stats.specs.Sums.{sums}
use Rattle.shared_stats.specs.Noted.{hits_in, IsAtMost}
use Rattle.shared_stats.specs.Text.{stats_text}

-- The text has the numbers of all rules, each of which is at least what these notes add, as long as they aren't more than a pass adds.
pub record IsTextAbove (notes : List Note) (text : List ℕ) : Type 0 where
  pub numbers : List RuleNumbers
  pub count : length numbers ≡ MOST_NODES
  pub least : hits_in notes ≤ 2 ^ 57 → (rule : ℕ) → rule < MOST_NODES → IsAtMost (sums 0 rule notes) (get_or numbers rule nothing)
  pub spelled : text ≡ stats_text numbers

-- the text has the numbers of all rules, each of which is at most what these notes add
pub record IsTextBelow (notes : List Note) (text : List ℕ) : Type 0 where
  pub numbers : List RuleNumbers
  pub count : length numbers ≡ MOST_NODES
  pub most : (rule : ℕ) → rule < MOST_NODES → IsAtMost (get_or numbers rule nothing) (sums 0 rule notes)
  pub spelled : text ≡ stats_text numbers
