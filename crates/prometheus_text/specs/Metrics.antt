-- The six metrics of rules: for each its name, what it counts, and its number among those of a rule.
use Rattle.std.specs.Prelude.{ℕ, List, [], ◌∷◌, codes}
use Rattle.rule_stats.specs.declared.numbers.RuleNumbers.{RuleNumbers}
use Rattle.prometheus_text.specs.declared.metric.Metric.{Metric}
use Rattle.prometheus_text.specs.declared.metric.Metric.TheVariants.{TotalHits, WithinLimit, NearLimit, OverLimit, OverLimitWithLocalCache, ShadowMode}

-- all of them, in the order of the text
abbrev pub metrics : List Metric
metrics = TotalHits ∷ WithinLimit ∷ NearLimit ∷ OverLimit ∷ OverLimitWithLocalCache ∷ ShadowMode ∷ []

-- the name
abbrev pub name_of : Metric → List ℕ
name_of TotalHits = codes "ratelimit_service_rate_limit_total_hits"
name_of WithinLimit = codes "ratelimit_service_rate_limit_within_limit"
name_of NearLimit = codes "ratelimit_service_rate_limit_near_limit"
name_of OverLimit = codes "ratelimit_service_rate_limit_over_limit"
name_of OverLimitWithLocalCache = codes "ratelimit_service_rate_limit_over_limit_with_local_cache"
name_of ShadowMode = codes "ratelimit_service_rate_limit_shadow_mode"

-- what it counts, in plain words
abbrev pub help_of : Metric → List ℕ
help_of TotalHits = codes "Hits of the rule."
help_of WithinLimit = codes "Hits with which the counter stood at most at the limit."
help_of NearLimit = codes "Hits within the limit with which the counter stood above four fifths of it."
help_of OverLimit = codes "Hits with which the counter stood above the limit, and hits that were not charged."
help_of OverLimitWithLocalCache = codes "Hits that were not charged, since the counter was seen above the limit."
help_of ShadowMode = codes "Hits over the limit that a shadow rule let pass."

-- the number of a rule
abbrev pub number_of : Metric → RuleNumbers → ℕ
number_of TotalHits n = n.total
number_of WithinLimit n = n.within
number_of NearLimit n = n.near
number_of OverLimit n = n.over
number_of OverLimitWithLocalCache n = n.seen
number_of ShadowMode n = n.shadow
