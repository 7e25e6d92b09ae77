use Rattle.std.proofs.Common.{◌≡◌, ◌∙◌, rules}
use Rattle.quota_pools.proofs.Placing.{has_place}
use Rattle.quota_pools.proofs.pools.PoolList.has.Goals as goal

pub returns : goal.returns
returns c = rw (← c.self.view_is)
    (c.is_some.ensures ∙ has_place c.self.inside.pools.items c.args.bucket.now c.get.result (c.get.ensures c.self.inside.pools.items c.self.invariant))
