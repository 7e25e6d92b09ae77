use Rattle.std.proofs.Common.{◌≡◌, ◌<◌, vec_len}
use Rattle.std.specs.List.{AllByRecursion}
use Rattle.http_serve.specs.Merged.{all_placed}
use Rattle.http_serve.proofs.merging.put.Given as goal

abbrev pub invariant-loop-served : goal.invariant-loop-served
invariant-loop-served g l = record {
  len : vec_len l.places ≡ vec_len l.initial.places;
  left : all_placed l.places.items l.served-iterator.rest.items ≡ all_placed l.initial.places.items l.fn.list;
  within : AllByRecursion (λ r. r.number < vec_len l.places) l.served-iterator.rest.items;
}
