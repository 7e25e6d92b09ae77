use Rattle.std.proofs.Common.{◌≡◌, ◌<◌, ◌++◌, All, length}
use Rattle.rate_limiter.specs.Summed.{open_totals}
use Rattle.rate_limiter.proofs.totals.totals_of.Given as goal

abbrev pub invariant-loop-claim : goal.invariant-loop-claim
invariant-loop-claim l = record {
  whole : l.yielded ++ l.claim-iterator.rest.items ≡ l.fn.claims.items;
  rest : All (λ x. x.spot.cell < length l.counts) l.claim-iterator.rest.items;
  counted : l.totals.items ≡ open_totals l.moment l.counts l.yielded;
}
