use Rattle.std.proofs.Common.{arith}
use Rattle.counter_directory.proofs.Indexing.{index_start}
use Rattle.counter_directory.proofs.claim_table.ClaimTable.make.Goals as goal

pub invariant_of-result-clause-found : goal.invariant_of-result-clause-found
invariant_of-result-clause-found g c =
    let e = c.in_ok-pool.ensures in
    let i = c.in_ok-index.index in
    index_start c.in_ok-pool.pool.last c.in_ok-pool.pool.claims i.items e.5 e.3 (omega (arith, i.ok.0, c.in_ok-index.ensures.0)) c.in_ok-index.ensures.1
