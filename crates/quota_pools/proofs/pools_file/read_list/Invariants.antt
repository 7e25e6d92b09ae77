use Rattle.std.proofs.Common.{◌≡◌, ◌++◌, length}
use Rattle.quota_pools.proofs.Listing.{PoolsSoFar}
use Rattle.quota_pools.proofs.pools_file.read_list.Given as goal

abbrev pub invariant-items : goal.invariant-items
invariant-items l =
    (goal.iterator-items).can_next l.value-iterator ×
    (goal.iterator-items).is_finite l.value-iterator ×
    (l.yielded ++ l.value-iterator.rest.items ≡ l.fn.list.items.items) ×
    (l.index ≡ length l.yielded) ×
    PoolsSoFar l.fn.list.place l.fn.list.items.items l.value-iterator.rest.items l.index l.pools
