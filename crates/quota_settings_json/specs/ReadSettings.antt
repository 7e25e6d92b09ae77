-- What settings say.
use Rattle.std.specs.Prelude.{ℕ, zero, suc, List, [], length, nat_lt, if◌then◌else◌, Option, Some, None, option_map, unwrap_or}
use Rattle.std.proofs.Math.Nat.{zero-lt-suc}
use Rattle.std.specs.declared.num.NonZeroU64.{NonZeroU64}
use Rattle.serde_json.specs.Data.{Data}
use Rattle.rate_types.specs.declared.limits.TheConstants.{MOST_PARTS}
use Rattle.rate_types.specs.declared.refusals.TheConstants.{EMPTY_DOMAIN, TEXT_TOO_LONG, INTERVAL_ZERO, NO_BUCKET_ID, TOO_MANY_PARTS}
use Rattle.proto_json.specs.Said.{Said, says, refuses, ◌>>=◌}
use Rattle.proto_json.specs.Fields.{Object, take, ends}
use Rattle.proto_json.specs.Kinds as kinds
use Rattle.proto_json.specs.Lists.{each_item}
use Rattle.proto_json.specs.Document.{document}
use Rattle.quota_bucket.specs.declared.strategy.Strategy.{Strategy}
use Rattle.quota_bucket.specs.declared.strategy.Strategy.TheVariants.{AllowAll}
use Rattle.quota_bucket.specs.declared.rules.AtExpiry.TheVariants.{Abandon}
use Rattle.quota_settings_json.specs.FieldNames as names
use Rattle.quota_settings.specs.Covering.{OneSettings, AllSettings}
use Rattle.quota_settings.specs.Parts.{NamePart}
use Rattle.quota_settings_json.specs.ReadAttributes.{attributes}
use Rattle.quota_settings_json.specs.ReadStrategy.{unless_zero}
use Rattle.quota_settings_json.specs.ReadParts.{builder}
use Rattle.quota_settings_json.specs.ReadBehaviors.{unassigned, expiry}
use Rattle.quota_settings.specs.declared.pair.Pair.{Pair}
use Rattle.quota_settings_json.specs.declared.expiry.Expiry.{Expiry}

-- ---- a bucket

-- a number that isn't 0
abbrev pub positive : ℕ → Option NonZeroU64
positive zero = None
positive (suc n) = Some (record { value = suc n; ok = zero-lt-suc n })

-- at most 32 parts, else 37 TooManyParts
unfoldable pub few_parts : List ℕ → List NamePart → Said (Option (List NamePart))
few_parts place parts = if nat_lt MOST_PARTS (length parts) then refuses TOO_MANY_PARTS place else says (Some parts)

-- a bucket's own rules: 31 IntervalZero where its reporting interval is absent or 0, 32 NoBucketId where its name has no
-- part, 37 TooManyParts where it has over 32
unfoldable pub bucket_rules : List ℕ → List Pair → List NamePart → ℕ → Strategy → Expiry → Said (Option OneSettings)
bucket_rules place matches parts interval before after = do
  every ← kinds.wanted INTERVAL_ZERO place (positive interval)
  some ← unless_zero NO_BUCKET_ID place (length parts)
  few ← few_parts place parts
  says (option_map (λ reporting. record {
    matches = matches;
    parts = parts;
    rules = record { reporting = reporting; unassigned = before; expired = after.behavior; timeout = after.timeout };
  }) every)

-- the behaviour of a bucket whose settings name none: it is abandoned when its assignment expires
abbrev pub abandoned : Expiry
abandoned = record { behavior = Abandon; timeout = None }

-- a bucket's fields in order, then its own rules
unfoldable pub bucket_in : Object → Said (Option OneSettings)
bucket_in o = do
  m ← take attributes names.matches o
  b ← take builder names.bucket_id_builder m.1
  i ← take kinds.duration names.reporting_interval b.1
  u ← take unassigned names.no_assignment_behavior i.1
  e ← take expiry names.expired_assignment_behavior u.1
  place ← ends e.1
  bucket_rules place (unwrap_or m.0 []) (unwrap_or b.0 []) (unwrap_or i.0 0) (unwrap_or u.0 AllowAll) (unwrap_or e.0 abandoned)

-- a bucket as a kind of value
abbrev pub bucket : List ℕ → Data → Said (Option OneSettings)
bucket = kinds.and_read kinds.message bucket_in

-- ---- settings

-- a list of buckets as a kind of field
abbrev pub buckets_kind : List ℕ → Data → Said (Option (List OneSettings))
buckets_kind = kinds.and_read kinds.list (each_item bucket)

-- the own rule: 10 EmptyDomain
abbrev pub settings_rules : List ℕ → List ℕ → List OneSettings → Said (Option AllSettings)
settings_rules place [] buckets = refuses EMPTY_DOMAIN place
settings_rules place domain buckets = says (Some (record { domain = domain; buckets = buckets }))

-- the fields in order, then the own rule
unfoldable pub settings_in : Object → Said (Option AllSettings)
settings_in o = do
  d ← take (kinds.short_text TEXT_TOO_LONG) names.domain o
  bs ← take buckets_kind names.buckets d.1
  place ← ends bs.1
  settings_rules place (unwrap_or d.0 []) (unwrap_or bs.0 [])

-- settings at their place
unfoldable pub settings_at : List ℕ → Data → Said (Option AllSettings)
settings_at place d = kinds.message place d >>= kinds.read_some settings_in

-- a settings file
unfoldable pub settings : List ℕ → Said (Option AllSettings)
settings bytes = document bytes >>= kinds.read_some (settings_at [])
