use Rattle.std.proofs.Common.{◌≡◌, [], false, length, take}
use Rattle.rate_limiter.specs.Asked.{founds}
use Rattle.rate_limiter.specs.Counted.{AreCounted, HaveRisen, SameButCounts}
use Rattle.rate_limiter.specs.Names.{names_under, name_keys}
use Rattle.rate_limiter.specs.Used.{HasUsed}
use Rattle.rate_limiter.proofs.answer.count_each.Given as goal

abbrev pub invariant-asked : goal.invariant-asked
invariant-asked g l = record {
  count : length l.statuses.items ≡ l.place;
  claims : l.counters.claims ≡ l.initial.counters.claims;
  counted : AreCounted l.initial.counters.claims.claims.known l.request l.initial.counters.cells.moment (take l.place l.descriptors)
      (take l.place (founds l.asked)) l.statuses.items l.initial.counters.cells l.counters.cells;
  same : SameButCounts l.initial.counters.cells l.counters.cells;
  risen : HaveRisen l.initial.counters.known l.counters.known;
  uses : HasUsed [] (name_keys l.initial.counters.cells.moment (names_under l.request l.request.descriptors (founds l.asked))) l.initial.counters.known l.counters.known;
  fresh : l.is_noted ≡ false → l.counters.known ≡ l.initial.counters.known;
}
