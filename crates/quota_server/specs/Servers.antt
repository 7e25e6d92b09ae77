-- What a quota server grants, and what it has written.
use Rattle.std.specs.Prelude.{ℕ, List, [], map, find, Bool, Option, None, Some, if◌then◌else◌}
use Rattle.std.specs.List.{AllByRecursion}
use Rattle.quota_settings.specs.declared.pair.Pair.{Pair}
use Rattle.quota_pools.specs.Pools.{OnePool, AllPools, is_pool_of}
use Rattle.quota_server.specs.Shares.{granted, SharesFitPool}
use Rattle.quota_server.specs.Written.{WrittenShares, with_share}
use Rattle.quota_server.specs.declared.grant.Grant.{Grant}
use Rattle.quota_server.specs.declared.grant.Grant.TheVariants.{Share, NoPool}

-- the domain of the pools, the present time, and each pool with all its shares
pub record QuotaServer : Type 0 where
  pub domain : List ℕ
  pub time : ℕ
  pub pools : List WrittenShares

-- a pool without a share
abbrev pub without_share : OnePool → WrittenShares
without_share pool = record { pool = pool; last = 0; shares = [] }

-- the server of these pools at the beginning
abbrev pub new_server : AllPools → QuotaServer
new_server pools = record { domain = pools.domain; time = 0; pools = map without_share pools.pools }

-- the server at a later moment
abbrev pub at_moment : ℕ → QuotaServer → QuotaServer
at_moment at s = record s { time = at }

-- whether a pool is that of a bucket
abbrev pub is_for : List Pair → WrittenShares → Bool
is_for bucket w = is_pool_of bucket w.pool

-- what a client is granted of a pool at a moment, where there is one: its part of the pool's requests in each of its units, for the
-- lifetime
abbrev pub grant_of : List ℕ → ℕ → Option WrittenShares → Grant
grant_of client at None = NoPool
grant_of client at (Some w) = Share (granted w.pool.count w.shares client at) w.pool.unit w.pool.lifetime

-- What a client is granted of a bucket at the present time.
abbrev pub grant_in : List ℕ → List Pair → QuotaServer → Grant
grant_in client bucket s = grant_of client s.time (find (is_for bucket) s.pools)

-- a pool after its grant to a client
abbrev pub granted_to : List ℕ → ℕ → WrittenShares → WrittenShares
granted_to client at w = with_share client (granted w.pool.count w.shares client at) at w

-- The server after that grant: the share is written among those of the bucket's pool.
abbrev pub after_grant : List ℕ → List Pair → QuotaServer → QuotaServer
after_grant client bucket s = record s { pools = map (λ w. if is_for bucket w then granted_to client s.time w else w) s.pools }

-- the shares of each pool fit it
abbrev pub AllFit : QuotaServer → Type 0
AllFit s = AllByRecursion (λ w. SharesFitPool w.pool.count w.shares) s.pools
