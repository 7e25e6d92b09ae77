-- Inside: which word has which number of a rule.
use Rattle.std.specs.Prelude.{ℕ, ◌+◌, ◌*◌, ◌==◌, List, if◌then◌else◌, slice_index}
use Rattle.rule_stats.specs.declared.numbers.RuleNumbers.{RuleNumbers}
use Rattle.shared_stats.specs.declared.rule.Amount.{Amount}
use Rattle.shared_stats.specs.Rule.{added_to, greatest_at}

-- six words a rule
abbrev pub word_of : ℕ → ℕ → ℕ
word_of rule place = 6 * rule + place

-- the number at a place
abbrev pub number_at : RuleNumbers → ℕ → ℕ
number_at n place = if place == 0 then n.total else (if place == 1 then n.within else (if place == 2 then n.near else (
    if place == 3 then n.over else (if place == 4 then n.seen else n.shadow))))

-- the numbers of a rule, where each word has this
abbrev pub numbers_by : (ℕ → ℕ) → ℕ → RuleNumbers
numbers_by f rule = record {
  total = f (word_of rule 0);
  within = f (word_of rule 1);
  near = f (word_of rule 2);
  over = f (word_of rule 3);
  seen = f (word_of rule 4);
  shadow = f (word_of rule 5);
}

-- what was added to the numbers of a rule
abbrev pub numbers_added : List Amount → ℕ → RuleNumbers
numbers_added xs rule = numbers_by (λ word. added_to word xs) rule

-- the greatest numbers that were found of a rule
abbrev pub numbers_found : List Amount → ℕ → RuleNumbers
numbers_found xs rule = numbers_by (λ word. greatest_at word xs) rule

-- the numbers of a rule in these words
abbrev pub numbers_in : List ℕ → ℕ → RuleNumbers
numbers_in words rule = numbers_by (λ word. slice_index words word) rule
