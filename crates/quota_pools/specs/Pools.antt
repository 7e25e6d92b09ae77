-- Pools of quota: what all clients of a bucket share.
use Rattle.std.specs.Prelude.{◌≡◌, ℕ, Bool, false, List, find, Option, None, Some, option_map, slice_get}
use Rattle.std.specs.List.{list_any}
use Rattle.rate_types.specs.declared.unit.Unit.{Unit}
use Rattle.quota_settings.specs.Pairs.{same_pairs}
use Rattle.quota_settings.specs.declared.pair.Pair.{Pair}

-- so many requests in each unit for a bucket, in assignments that live so many milliseconds
pub record OnePool : Type 0 where
  pub bucket : List Pair
  pub count : ℕ
  pub unit : Unit
  pub lifetime : ℕ

-- the pools of a domain
pub record AllPools : Type 0 where
  pub domain : List ℕ
  pub pools : List OnePool

-- whether a pool is that of a bucket
abbrev pub is_pool_of : List Pair → OnePool → Bool
is_pool_of bucket pool = same_pairs pool.bucket bucket

-- whether a bucket has one of these pools
abbrev pub has_pool : List OnePool → List Pair → Bool
has_pool pools bucket = list_any (is_pool_of bucket) pools

-- the pool of a bucket
abbrev pub pool_of : AllPools → List Pair → Option OnePool
pool_of pools bucket = find (is_pool_of bucket) pools.pools

-- a place is that of the bucket's pool; without a place the bucket has no pool
abbrev pub IsPlaceIn : List OnePool → List Pair → Option ℕ → Type 0
IsPlaceIn pools bucket None = has_pool pools bucket ≡ false
IsPlaceIn pools bucket (Some i) = option_map (λ p. p.bucket) (slice_get pools i) ≡ Some bucket
