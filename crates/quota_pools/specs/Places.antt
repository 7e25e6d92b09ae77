-- At which place of a list the pool of each bucket stands.
use Rattle.std.specs.Prelude.{◌≡◌, ℕ, List, Option, Some, option_map, slice_get, if◌then◌else◌}
use Rattle.std.specs.BTreeMap.{get}
use Rattle.std.specs.Ordering.{is_eq}
use Rattle.quota_settings.specs.declared.pair.Pair.{Pair}
use Rattle.quota_settings.specs.Pairs.{pairs_cmp}
use Rattle.quota_pools.specs.Pools.{OnePool}
use Rattle.quota_pools.specs.declared.pool_places.PoolPlaces.{PoolPlaces}

-- the place under a bucket
abbrev pub places_of : PoolPlaces → List Pair → Option ℕ
places_of p = get pairs_cmp p.index

-- an index has the place of each pool under its bucket, and no other place
pub record IsPlaces (index : List Pair → Option ℕ) (pools : List OnePool) : Type 0 where
  pub placed : (i : ℕ) (p : OnePool) → slice_get pools i ≡ Some p → index p.bucket ≡ Some i
  pub named : (id : List Pair) (i : ℕ) → index id ≡ Some i → option_map (λ p. p.bucket) (slice_get pools i) ≡ Some id

-- these are the places of the pools
abbrev pub AreAt : PoolPlaces → List OnePool → Type 0
AreAt p pools = IsPlaces (places_of p) pools

-- a place was added under a bucket
abbrev pub HasAdded : List Pair → ℕ → PoolPlaces → PoolPlaces → Type 0
HasAdded bucket place p q = (id : List Pair) → places_of q id ≡ (if is_eq (pairs_cmp bucket id) then Some place else places_of p id)
