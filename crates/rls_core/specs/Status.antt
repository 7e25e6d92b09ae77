-- The status of a descriptor: what its rule, its hits and the count of its counter give.
use Rattle.std.specs.Prelude.{ℕ, ◌+◌, ◌-◌, ◌==◌, ◌&&◌, ◌||◌, not, Bool, nat_lt, if◌then◌else◌, Option, Some, None}
use Rattle.rate_types.specs.declared.unit.Unit.{Unit}
use Rattle.rate_types.specs.declared.rule_id.RuleId.{RuleId}
use Rattle.window_keys.specs.Window.{time_to_reset}
use Rattle.rule_lookup.specs.declared.found.Found.{Found}
use Rattle.rule_lookup.specs.declared.found.Found.TheVariants.{NoRule, Unlimited, Limited}
use Rattle.rls_core.specs.declared.status.Code.{Code}
use Rattle.rls_core.specs.declared.status.Code.TheVariants.{OverLimit}
use Rattle.rls_core.specs.declared.status.Code.TheVariants as code
use Rattle.rls_core.specs.declared.status.Count.{Count}
use Rattle.rls_core.specs.declared.status.Count.TheVariants.{NoCount, Before, Seen}
use Rattle.rls_core.specs.declared.status.Status.{Status}

-- over the limit, unless the rule is shadow
abbrev pub code_of : Bool → Bool → Code
code_of shadow over = if over && not shadow then OverLimit else code.Ok

-- under a limit, where the counter then stands at this value
abbrev pub status_at : ℕ → Unit → Bool → Option RuleId → ℕ → ℕ → Count → Status
status_at limit unit shadow rule moment value count = record {
  code = code_of shadow (nat_lt limit value);
  limit = Some (record { limit = limit; unit = unit });
  remaining = limit - value;
  reset = time_to_reset unit moment;
  rule = rule;
  count = count;
}

-- without a limit
abbrev pub free_status : ℕ → Option RuleId → Status
free_status remaining rule = record { code = code.Ok; limit = None; remaining = remaining; reset = 0; rule = rule; count = NoCount }

-- The status of a descriptor with these hits at a moment. A counter that had `before` charged is charged the hits,
-- which are at least 1. A counter that was only seen was above the limit, or the hits are 0. Nothing else has a status.
abbrev pub status_of : Found → ℕ → ℕ → Count → Option Status
status_of NoRule moment hits NoCount = Some (free_status 0 None)
status_of (Unlimited rule) moment hits NoCount = Some (free_status 4294967295 (Some rule))
status_of (Limited limit unit shadow rule) moment hits (Before before) =
    if nat_lt 0 hits then Some (status_at limit unit shadow rule moment (before + hits) (Before before)) else None
status_of (Limited limit unit shadow rule) moment hits (Seen seen) =
    if (hits == 0) || nat_lt limit seen then Some (status_at limit unit shadow rule moment seen (Seen seen)) else None
status_of found moment hits other = None
