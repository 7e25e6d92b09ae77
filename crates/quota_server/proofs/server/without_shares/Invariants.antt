use Rattle.std.proofs.Common.{◌≡◌, ◌++◌, map}
use Rattle.quota_server.specs.Servers.{without_share}
use Rattle.quota_server.specs.Stored.{AreFitting}
use Rattle.quota_server.proofs.server.without_shares.Given as goal

abbrev pub invariant-pools : goal.invariant-pools
invariant-pools l =
    (goal.iterator-pools).can_next l.pool-iterator ×
    (goal.iterator-pools).is_finite l.pool-iterator ×
    (l.yielded ++ l.pool-iterator.rest.items ≡ l.fn.pools.items) ×
    (l.shares.items ≡ map without_share l.yielded) ×
    AreFitting l.shares.items
