-- The statistics of rules: what each status adds to the six numbers of its rule.
use Rattle.std.specs.Prelude.{ℕ, zero, suc, ◌+◌, ◌*◌, ◌/◌, ◌&&◌, ◌==◌, if◌then◌else◌, Bool, nat_le, nat_lt, Option, Some, None}
use Rattle.rate_types.specs.Sums.{one_if}
use Rattle.rate_types.specs.declared.request.OwnLimit.{OwnLimit}
use Rattle.rate_types.specs.declared.rule_id.RuleId.{RuleId}
use Rattle.rls_core.specs.declared.status.Code.{Code}
use Rattle.rls_core.specs.declared.status.Code.TheVariants.{OverLimit}
use Rattle.rls_core.specs.declared.status.Code.TheVariants as code
use Rattle.rls_core.specs.declared.status.Count.{Count}
use Rattle.rls_core.specs.declared.status.Count.TheVariants.{NoCount, Before, Seen}
use Rattle.rls_core.specs.declared.status.Status.{Status}
use Rattle.rule_stats.specs.declared.numbers.RuleNumbers.{RuleNumbers}

-- How many of so many hits pass a test of where the counter stands with them. Before them it stood at `before`; each hit adds one.
abbrev pub hits_where : (ℕ → Bool) → ℕ → ℕ → ℕ
hits_where test before zero = 0
hits_where test before (suc hits) = one_if (test (before + suc hits)) + hits_where test before hits

-- four fifths of a limit, rounded down
unfoldable pub near_from : ℕ → ℕ
near_from limit = (4 * limit) / 5

-- the counter stands at most at the limit
abbrev pub is_within : ℕ → ℕ → Bool
is_within limit value = nat_le value limit

-- it does, and above four fifths of it
abbrev pub is_near : ℕ → ℕ → Bool
is_near limit value = nat_lt (near_from limit) value && nat_le value limit

-- the counter stands above the limit
abbrev pub is_over : ℕ → ℕ → Bool
is_over limit value = nat_lt limit value

-- numbers that count nothing
abbrev pub nothing : RuleNumbers
nothing = record { total = 0; within = 0; near = 0; over = 0; seen = 0; shadow = 0 }

-- of the hits over the limit, those that pass all the same: all where the code is OK, which a shadow rule's is
abbrev pub let_pass : Code → ℕ → ℕ
let_pass code.Ok over = over
let_pass OverLimit over = 0

-- hits that were charged on a counter which stood at `before`
abbrev pub numbers_charged : ℕ → Code → ℕ → ℕ → RuleNumbers
numbers_charged limit c before hits = record {
  total = hits;
  within = hits_where (is_within limit) before hits;
  near = hits_where (is_near limit) before hits;
  over = hits_where (is_over limit) before hits;
  seen = 0;
  shadow = let_pass c (hits_where (is_over limit) before hits);
}

-- hits that weren't charged, since the counter was seen above the limit
abbrev pub numbers_seen : Code → ℕ → RuleNumbers
numbers_seen c hits = record { total = hits; within = 0; near = 0; over = hits; seen = hits; shadow = let_pass c hits }

-- what a status adds to the numbers of its rule: nothing where it has no limit
abbrev pub numbers_under : Option OwnLimit → Code → Count → ℕ → RuleNumbers
numbers_under None c count hits = nothing
numbers_under (Some own) c NoCount hits = nothing
numbers_under (Some own) c (Before before) hits = numbers_charged own.limit c before hits
numbers_under (Some own) c (Seen seen) hits = numbers_seen c hits

-- the same of a status with the hits of its descriptor
abbrev pub numbers_of : Status → ℕ → RuleNumbers
numbers_of s hits = numbers_under s.limit s.code s.count hits

-- a status that was answered by a version, with the hits of its descriptor
pub record Note : Type 0 where
  pub version : ℕ
  pub hits : ℕ
  pub status : Status

-- what it adds to the numbers of a rule of a version: nothing where its own rule is another one, or none
abbrev pub added_under : ℕ → ℕ → ℕ → Option RuleId → RuleNumbers → RuleNumbers
added_under version rule own None numbers = nothing
added_under version rule own (Some id) numbers = if (own == version) && (id.0 == rule) then numbers else nothing

-- the same of a note
abbrev pub added : ℕ → ℕ → Note → RuleNumbers
added version rule n = added_under version rule n.version n.status.rule (numbers_of n.status n.hits)
