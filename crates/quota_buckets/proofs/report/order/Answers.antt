use Rattle.std.proofs.Common.{◌≡◌, rules}
use Rattle.std.proofs.lemmas.List.Sorted.{IsNonDecreasingBy-from_sort_by_key}
use Rattle.std.proofs.lemmas.Fn.{always_returns_same}
use Rattle.quota_buckets.proofs.Moments.{in_order}
use Rattle.quota_buckets.proofs.report.order.Goals as goal

pub returns : goal.returns
returns c =
    in_order _ _ (IsNonDecreasingBy-from_sort_by_key (λ r. r.at) _ c.in_ok-sort_by_key.ensures.sorted (λ a r q k. search rules))
    (c.sort_by_key.ensures.stable (λ r. r.at) (always_returns_same _ (λ a r. r ≡ a.0.now.at) _ (λ a r q k. search rules)))
