use Rattle.std.proofs.Common.{◌≡◌, ◌<◌, None, replicate, vec_len}
use Rattle.std.specs.List.{AllByRecursion}
use Rattle.http_serve.specs.Merged.{joined, all_placed}
use Rattle.http_serve.proofs.merging.merge.Given as goal

abbrev pub invariant-loop-list : goal.invariant-loop-list
invariant-loop-list g l = record {
  len : vec_len l.places ≡ l.count;
  left : all_placed l.places.items (joined l.list-iterator.rest.items) ≡ all_placed (replicate l.count None) (joined l.fn.lists.items);
  within : AllByRecursion (λ r. r.number < l.count) (joined l.list-iterator.rest.items);
}
