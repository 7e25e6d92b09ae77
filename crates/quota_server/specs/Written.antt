-- The shares of a pool that were written.
use Rattle.std.specs.Prelude.{◌≡◌, ℕ, ◌<◌, ◌≤◌, ◌+◌, List, [], ◌∷◌, ◌++◌, map}
use Rattle.std.specs.List.{AllByRecursion}
use Rattle.quota_pools.specs.Pools.{OnePool}
use Rattle.quota_server.specs.Shares.{Share, live_at, SharesFitPool}
use Rattle.quota_server.specs.Lives.{IsLawful}
use Rattle.quota_server.specs.declared.live.Live.{Live}
use Rattle.quota_server.specs.declared.live_share.Span.{Span}

-- a pool with the moment of its last share, and all its shares in order
pub record WrittenShares : Type 0 where
  pub pool : OnePool
  pub last : ℕ
  pub shares : List Share

-- one share more, for a client at a moment
abbrev pub with_share : List ℕ → ℕ → ℕ → WrittenShares → WrittenShares
with_share client n at w = record {
  pool = w.pool;
  last = at;
  shares = w.shares ++ (record { client = client; count = n; from = at; until = at + w.pool.lifetime }) ∷ [];
}

-- the share of a client with a span
abbrev pub share_of : List ℕ × Span → Share
share_of x = record { client = x.0; count = x.1.count; from = x.1.from; until = x.1.until }

abbrev pub shares_in : List (List ℕ × Span) → List Share
shares_in xs = map share_of xs

-- a share has begun by the last moment, and ends its lifetime after it began
pub record IsTimed (lifetime last : ℕ) (s : Share) : Type 0 where
  pub begun : s.from ≤ last
  pub ends : s.until ≡ s.from + lifetime

-- all shares of a pool, and what is kept of those that are live at the last moment
pub record IsWritten (count lifetime last : ℕ) (shares : List Share) (live : Live) : Type 0 where
  pub lasting : 0 < lifetime
  pub timed : AllByRecursion (IsTimed lifetime last) shares
  pub those : live.shares.items ≡ live_at last shares
  pub lawful : IsLawful live
  pub fits : SharesFitPool count shares
