-- Inside: what a server keeps.
use Rattle.std.specs.Prelude.{ℕ, ◌≤◌, List, map}
use Rattle.std.specs.List.{AllByRecursion}
use Rattle.quota_pools.specs.Places.{AreAt}
use Rattle.quota_pools.specs.declared.pool_places.PoolPlaces.{PoolPlaces}
use Rattle.quota_server.specs.Shares.{SharesFitPool}
use Rattle.quota_server.specs.Written.{WrittenShares}

-- the shares of each pool fit it
abbrev pub AreFitting : List WrittenShares → Type 0
AreFitting ws = AllByRecursion (λ w. SharesFitPool w.pool.count w.shares) ws

-- the places are those of the pools; no share is later than the present time; and the shares of each pool fit it
pub record IsStored (places : PoolPlaces) (time : ℕ) (pools : List WrittenShares) : Type 0 where
  pub placed : AreAt places (map (λ w. w.pool) pools)
  pub begun : AllByRecursion (λ w. w.last ≤ time) pools
  pub fit : AreFitting pools
