use Rattle.std.proofs.Common.{◌≡◌, rules}
use Rattle.quota_pools.specs.Places.{places_of}
use Rattle.quota_pools.proofs.Placing.{no_places}
use Rattle.quota_pools.proofs.pool_places.PoolPlaces.new.Goals as goal

pub returns : goal.returns
returns c = no_places _ (λ q. search rules)
