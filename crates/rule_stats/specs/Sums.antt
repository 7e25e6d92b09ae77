-- The numbers of all rules: sums over what statuses add.
use Rattle.std.specs.Prelude.{◌≡◌, ℕ, ◌+◌, ◌*◌, ◌≤◌, ◌^◌, List, [], ◌∷◌, get_or}
use Rattle.rule_stats.specs.declared.numbers.RuleNumbers.{RuleNumbers}
use Rattle.rule_stats.specs.Statistics.{Note, added, nothing}

-- numbers added up, each with its own
abbrev pub plus : RuleNumbers → RuleNumbers → RuleNumbers
plus x y = record {
  total = x.total + y.total;
  within = x.within + y.within;
  near = x.near + y.near;
  over = x.over + y.over;
  seen = x.seen + y.seen;
  shadow = x.shadow + y.shadow;
}

-- what these statuses add to the numbers of a rule of a version
abbrev pub sums : ℕ → ℕ → List Note → RuleNumbers
sums version rule [] = nothing
sums version rule (n ∷ ns) = plus (added version rule n) (sums version rule ns)

-- the numbers of a rule of a version, where each version has a list of the numbers of its rules
abbrev pub numbers_at : List (List RuleNumbers) → ℕ → ℕ → RuleNumbers
numbers_at versions version rule = get_or (get_or versions version []) rule nothing

-- The numbers of each rule of each version are what these statuses add to them.
abbrev pub AreSums : List Note → List (List RuleNumbers) → Type 0
AreSums notes versions = (version rule : ℕ) → numbers_at versions version rule ≡ sums version rule notes

-- a tally: for each version a list of the numbers of its rules, and how many statuses were added
pub record TallyView : Type 0 where
  pub versions : List (List RuleNumbers)
  pub notes : ℕ

-- Inside: numbers of so many statuses, each with less than 2^32 hits.

-- each of the numbers is below so many times 2^32
pub record IsBelow (notes : ℕ) (x : RuleNumbers) : Type 0 where
  pub total : x.total ≤ notes * 2 ^ 32
  pub within : x.within ≤ notes * 2 ^ 32
  pub near : x.near ≤ notes * 2 ^ 32
  pub over : x.over ≤ notes * 2 ^ 32
  pub seen : x.seen ≤ notes * 2 ^ 32
  pub shadow : x.shadow ≤ notes * 2 ^ 32

-- the same of those of each rule
abbrev pub AreBelow : ℕ → List RuleNumbers → Type 0
AreBelow notes rules = (rule : ℕ) → IsBelow notes (get_or rules rule nothing)

-- the same of those of each version
abbrev pub AllBelow : ℕ → List (List RuleNumbers) → Type 0
AllBelow notes versions = (version : ℕ) → AreBelow notes (get_or versions version [])
