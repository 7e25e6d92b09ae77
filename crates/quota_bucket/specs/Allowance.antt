-- How many requests an effect allows.
use Rattle.std.specs.Prelude.{ℕ, ◌+◌, ◌-◌, ◌*◌, ◌≤◌, ⊤, List, Option, Some, None}
use Rattle.quota_bucket.specs.Strategies.{Decision, allowed_in, allowed_between, fills_at, millis_of}
use Rattle.quota_bucket.specs.History.{Event, phase_after, decided, in_force}
use Rattle.quota_bucket.specs.declared.rules.BucketRules.{BucketRules}
use Rattle.quota_bucket.specs.declared.timed_phase.InForce.{InForce}
use Rattle.quota_bucket.specs.declared.strategy.Strategy.{Strategy}
use Rattle.quota_bucket.specs.declared.strategy.Strategy.TheVariants.{AllowAll, DenyAll, PerUnit, TokenBucket}

-- in no interval of its effect were more requests allowed than the strategy's number, and between two moments no more
-- than the tokens that the strategy has at first and gets between them
abbrev pub IsWithin : Strategy → ℕ → List Decision → Type 0
IsWithin AllowAll effect requests = ⊤
IsWithin DenyAll effect requests = ⊤
IsWithin (PerUnit count unit) effect requests =
    (interval : ℕ) → allowed_in (millis_of unit) effect interval requests ≤ count
IsWithin (TokenBucket max per_fill interval) effect requests =
    (from to : ℕ) → from ≤ to
    → allowed_between from to requests ≤ max + per_fill * (fills_at interval effect to - fills_at interval effect from)

-- the same of the strategy in force, where there is a bucket
abbrev pub IsWithinForce : Option InForce → List Decision → Type 0
IsWithinForce None requests = ⊤
IsWithinForce (Some force) requests = IsWithin force.strategy force.effect requests

-- so many requests were allowed since the effect in force began, whatever else happened to the bucket
abbrev pub KeepsAllowance : BucketRules → List Event → Type 0
KeepsAllowance rules history = IsWithinForce (in_force rules (phase_after rules history)) (decided rules history)
