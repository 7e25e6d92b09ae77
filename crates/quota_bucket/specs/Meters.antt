-- How a request is decided by the meter of the requests before it.
use Rattle.std.specs.Prelude.{◌==◌, ℕ, ◌+◌, ◌-◌, ◌*◌, ◌/◌, true, false, min, nat_lt, nat_le, if◌then◌else◌}
use Rattle.quota_bucket.specs.Strategies.{tokens_left, millis_of}
use Rattle.quota_bucket.specs.declared.strategy.Strategy.{Strategy}
use Rattle.quota_bucket.specs.declared.strategy.Strategy.TheVariants.{AllowAll, DenyAll, PerUnit, TokenBucket}
use Rattle.quota_bucket.specs.declared.meter.Meter.{Meter}
use Rattle.quota_bucket.specs.declared.meter.Verdict.{Verdict}
use Rattle.quota_bucket.specs.declared.meter.Meter.TheVariants.{Fresh, Counted, Filled}

-- how many were allowed in this interval, by the meter
abbrev pub metered : Meter → ℕ → ℕ
metered (Counted latest allowed) interval = if latest == interval then allowed else 0
metered _ interval = 0

-- the tokens at this fill, by the meter
abbrev pub tokens : Meter → ℕ → ℕ → ℕ → ℕ
tokens (Filled latest left) max per_fill fills = min (left + per_fill * (fills - latest)) max
tokens _ max per_fill fills = max

-- the answer by a number of requests for each interval, and the meter after it
abbrev pub judged_count : Meter → ℕ → ℕ → Verdict
judged_count meter count interval =
    let before = metered meter interval in
    record {
      allowed = nat_lt before count;
      meter = Counted interval (before + (if nat_lt before count then 1 else 0));
    }

-- the answer by tokens, and the meter after it
abbrev pub judged_tokens : Meter → ℕ → ℕ → ℕ → Verdict
judged_tokens meter max per_fill fills =
    let held = tokens meter max per_fill fills in
    record {
      allowed = nat_le 1 held;
      meter = Filled fills (tokens_left held (nat_le 1 held));
    }

-- the answer of a strategy by the meter, and the meter after it
abbrev pub judged : Strategy → Meter → ℕ → Verdict
judged AllowAll meter elapsed = record { allowed = true; meter = Fresh }
judged DenyAll meter elapsed = record { allowed = false; meter = Fresh }
judged (PerUnit count unit) meter elapsed = judged_count meter count (elapsed / millis_of unit)
judged (TokenBucket max per_fill interval) meter elapsed = judged_tokens meter max per_fill (elapsed / interval)
