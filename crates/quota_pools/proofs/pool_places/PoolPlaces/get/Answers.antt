use Rattle.std.proofs.Common.{◌≡◌, rules}
use Rattle.quota_pools.specs.Places.{places_of}
use Rattle.quota_pools.proofs.Placing.{place_in}
use Rattle.quota_pools.proofs.pool_places.PoolPlaces.get.Goals as goal

pub returns : goal.returns
returns c = λ pools at. place_in (places_of c.args.self.now) pools c.args.bucket.now c.copied.result at (search rules)
