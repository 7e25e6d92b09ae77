-- What the strategies allow, over all requests since the effect began.
use Rattle.std.specs.Prelude.{◌==◌, ℕ, ◌+◌, ◌-◌, ◌*◌, ◌/◌, ◌&&◌, Bool, true, false, List, [], ◌∷◌, min, nat_lt, nat_le, count_by}
use Rattle.std.specs.Prelude.{if◌then◌else◌}
use Rattle.rate_types.specs.Units.{seconds_of, unit_rank}
use Rattle.rate_types.specs.declared.unit.Unit.{Unit}
use Rattle.quota_bucket.specs.declared.strategy.Strategy.{Strategy}
use Rattle.quota_bucket.specs.declared.strategy.Strategy.TheVariants.{AllowAll, DenyAll, PerUnit, TokenBucket}

-- how long a unit is, in milliseconds
abbrev pub millis_of : Unit → ℕ
millis_of unit = 1000 * seconds_of unit

-- whether two strategies are equal
abbrev pub same_strategy : Strategy → Strategy → Bool
same_strategy AllowAll AllowAll = true
same_strategy DenyAll DenyAll = true
same_strategy (PerUnit count unit) (PerUnit count' unit') = count == count' && unit_rank unit == unit_rank unit'
same_strategy (TokenBucket max per_fill interval) (TokenBucket max' per_fill' interval') =
    max == max' && (per_fill == per_fill' && interval == interval')
same_strategy _ _ = false

-- a request that was decided: when, and whether it was allowed
pub record Decision : Type 0 where
  pub at : ℕ
  pub allowed : Bool

-- the interval of a moment, counted from the effect
abbrev pub interval_at : ℕ → ℕ → ℕ → ℕ
interval_at length effect at = (at - effect) / length

-- how many of these requests were allowed in an interval
abbrev pub allowed_in : ℕ → ℕ → ℕ → List Decision → ℕ
allowed_in length effect interval requests =
    count_by (λ d. d.allowed && interval_at length effect d.at == interval) requests

-- how many of these requests were allowed at moments from `from` to `to`
abbrev pub allowed_between : ℕ → ℕ → List Decision → ℕ
allowed_between from to requests = count_by (λ d. d.allowed && (nat_le from d.at && nat_le d.at to)) requests

-- how often tokens came up to a moment
abbrev pub fills_at : ℕ → ℕ → ℕ → ℕ
fills_at length effect at = (at - effect) / length

-- the tokens that a request left
abbrev pub tokens_left : ℕ → Bool → ℕ
tokens_left tokens allowed = tokens - (if allowed then 1 else 0)

-- the tokens before a request at a moment, by the earlier requests since the effect began, the latest first
abbrev pub tokens_before : ℕ → ℕ → ℕ → ℕ → ℕ → List Decision → ℕ
tokens_before max per_fill length effect at [] = max
tokens_before max per_fill length effect at (d ∷ earlier) =
    min (tokens_left (tokens_before max per_fill length effect d.at earlier) d.allowed
    + per_fill * (fills_at length effect at - fills_at length effect d.at)) max

-- whether a strategy with this effect allows a request, by the earlier requests since the effect began, the latest first
abbrev pub allows : Strategy → ℕ → ℕ → List Decision → Bool
allows AllowAll effect at earlier = true
allows DenyAll effect at earlier = false
allows (PerUnit count unit) effect at earlier =
    nat_lt (allowed_in (millis_of unit) effect (interval_at (millis_of unit) effect at) earlier) count
allows (TokenBucket max per_fill interval) effect at earlier =
    nat_le 1 (tokens_before max per_fill interval effect at earlier)
