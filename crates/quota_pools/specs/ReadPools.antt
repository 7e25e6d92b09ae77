-- What a pools file says.
use Rattle.std.specs.Prelude.{ℕ, ◌+◌, List, [], ◌∷◌, ◌++◌, length, nat_eq, nat_lt, if◌then◌else◌, Option, Some, None, unwrap_or}
use Rattle.std.specs.Prelude.{Result, Ok, Err}
use Rattle.serde_json.specs.Data.{Data, Items, no_items, item}
use Rattle.rate_types.specs.Places as places
use Rattle.rate_types.specs.declared.unit.Unit.{Unit}
use Rattle.rate_types.specs.declared.limits.TheConstants.{MOST_PARTS}
use Rattle.rate_types.specs.declared.refusals.TheConstants.{EMPTY_DOMAIN, TEXT_TOO_LONG, UNIT_MISSING, NO_BUCKET_ID, TOO_MANY_PARTS}
use Rattle.rate_types.specs.declared.refusals.TheConstants.{TWO_POOLS, NO_LIFETIME}
use Rattle.proto_json.specs.Said.{Said, says, refuses, ◌>>=◌}
use Rattle.proto_json.specs.Fields.{Object, Listed, take, ends}
use Rattle.proto_json.specs.Kinds as kinds
use Rattle.proto_json.specs.Document.{document}
use Rattle.quota_settings.specs.declared.pair.Pair.{Pair}
use Rattle.quota_lines.specs.FieldNames as line_names
use Rattle.quota_lines.specs.ReadBucketId.{bucket_id}
use Rattle.quota_pools.specs.FieldNames as names
use Rattle.quota_pools.specs.Pools.{OnePool, AllPools, has_pool}

-- ---- a pool

-- a pool, or the first of its own rules that it breaks: 14 UnitMissing, 32 NoBucketId where its bucket has no name, 37 TooManyParts
-- where it has over 32, 48 TwoPools where an earlier pool has the same bucket, 49 NoLifetime where its lifetime is absent or 0
unfoldable pub checked_pool : List OnePool → List Pair → ℕ → Option Unit → ℕ → Result OnePool ℕ
checked_pool earlier pairs count None lifetime = Err UNIT_MISSING
checked_pool earlier pairs count (Some unit) lifetime = if nat_eq (length pairs) 0 then Err NO_BUCKET_ID
    else (if nat_lt MOST_PARTS (length pairs) then Err TOO_MANY_PARTS
    else (if has_pool earlier pairs then Err TWO_POOLS
    else (if nat_eq lifetime 0 then Err NO_LIFETIME
    else Ok (record { bucket = pairs; count = count; unit = unit; lifetime = lifetime }))))

-- that pool, or the refusal at its place
abbrev pub placed_pool : List ℕ → Result OnePool ℕ → Said (Option OnePool)
placed_pool place (Ok p) = says (Some p)
placed_pool place (Err refusal) = refuses refusal place

-- a pool's fields in order, then its own rules; an absent number is 0
unfoldable pub pool_in : List OnePool → Object → Said (Option OnePool)
pool_in earlier o = do
  id ← take bucket_id line_names.bucket_id o
  n ← take kinds.uint64 names.requests_per_time_unit id.1
  u ← take kinds.unit names.time_unit n.1
  l ← take kinds.duration names.assignment_time_to_live u.1
  place ← ends l.1
  placed_pool place (checked_pool earlier (unwrap_or id.0 []) (unwrap_or n.0 0) u.0 (unwrap_or l.0 0))

-- a pool as a kind of value, behind the earlier ones
unfoldable pub pool : List OnePool → List ℕ → Data → Said (Option OnePool)
pool earlier place d = kinds.message place d >>= kinds.read_some (pool_in earlier)

-- ---- pools

-- a pool behind the earlier ones
abbrev pub and_pool : List OnePool → Option OnePool → List OnePool
and_pool earlier None = earlier
and_pool earlier (Some p) = earlier ++ p ∷ []

-- the earlier ones and the items of a list from this index on, each read at its place behind those before it
unfoldable pub pools_from : List ℕ → ℕ → List OnePool → Items → Said (Option (List OnePool))
pools_from place index earlier no_items = says (Some earlier)
pools_from place index earlier (item d ds) = do
  p ← pool earlier (places.item place index) d
  pools_from place (index + 1) (and_pool earlier p) ds

-- the items of a list
unfoldable pub each_pool : Listed → Said (Option (List OnePool))
each_pool list = pools_from list.place 0 [] list.items

-- a list of pools as a kind of field
abbrev pub pools_kind : List ℕ → Data → Said (Option (List OnePool))
pools_kind = kinds.and_read kinds.list each_pool

-- the own rule: 10 EmptyDomain
abbrev pub pools_rules : List ℕ → List ℕ → List OnePool → Said (Option AllPools)
pools_rules place [] pools = refuses EMPTY_DOMAIN place
pools_rules place domain pools = says (Some (record { domain = domain; pools = pools }))

-- the fields in order, then the own rule
unfoldable pub pools_in : Object → Said (Option AllPools)
pools_in o = do
  d ← take (kinds.short_text TEXT_TOO_LONG) names.domain o
  ps ← take pools_kind names.pools d.1
  place ← ends ps.1
  pools_rules place (unwrap_or d.0 []) (unwrap_or ps.0 [])

-- pools at their place
unfoldable pub pools_at : List ℕ → Data → Said (Option AllPools)
pools_at place d = kinds.message place d >>= kinds.read_some pools_in

-- a pools file
unfoldable pub pools : List ℕ → Said (Option AllPools)
pools bytes = document bytes >>= kinds.read_some (pools_at [])
