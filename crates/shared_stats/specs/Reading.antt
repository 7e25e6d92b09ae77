-- A reading of all rules, one after the other.
use Rattle.std.specs.Prelude.{◌≡◌, ℕ, ◌+◌, ◌≤◌, ◌<◌, ◌^◌, List, [], ◌∷◌, ◌++◌, length, get_or}
use Rattle.rule_stats.specs.declared.numbers.RuleNumbers.{RuleNumbers}
use Rattle.rule_stats.specs.Statistics.{Note, nothing}
use Rattle.rule_stats.specs.Sums.{sums}
use Rattle.shared_stats.specs.Noted.{hits_in, IsAtMost}

-- numbers behind their rules, of which the first has this number
abbrev pub numbered : ℕ → List RuleNumbers → List (ℕ × RuleNumbers)
numbered rule [] = []
numbered rule (n ∷ ns) = (rule, n) ∷ numbered (rule + 1) ns

-- These were the numbers of the first rules, each read by this pass once: at least what its own notes add, as long as they aren't more than
-- a pass adds.
pub record IsReading (rules : ℕ) (notes : List Note) (old new : List (ℕ × RuleNumbers)) (found : List RuleNumbers) : Type 0 where
  pub count : length found ≡ rules
  pub least : hits_in notes ≤ 2 ^ 57 → (rule : ℕ) → rule < rules → IsAtMost (sums 0 rule notes) (get_or found rule nothing)
  pub reads : new ≡ old ++ numbered 0 found
