use Rattle.quota_server.proofs.Serving.{pools_without, begun_without}
use Rattle.quota_server.proofs.server.Server.make.Goals as goal

pub invariant_of-result : goal.invariant_of-result
invariant_of-result c =
    let pools = c.into_parts-pools.result.0.items in
    let same = c.into_parts-pools.ensures.pools in
    let made = c.in_ok-pools.ensures.pools in
    record {
      placed = rw (made, pools_without pools, same) c.into_parts-pools.ensures.places;
      begun = rw made (begun_without c.unwrap.result pools);
      fit = c.in_ok-pools.ensures.fit;
    }
