use Rattle.std.proofs.Common.{◌≡◌, ◌≤◌, length}
use Rattle.rate_limiter.specs.Asked.{ArePinned}
use Rattle.rate_limiter.specs.Counters.{Holds}
use Rattle.rate_limiter.specs.Known.{PinsGrow}
use Rattle.rate_limiter.specs.Pinned.{SameButPins}
use Rattle.rate_limiter.proofs.hold.pin_each.Given as goal

abbrev pub invariant-asked : goal.invariant-asked
invariant-asked g l = record {
  rest : l.counters ≡ record l.initial.counters { cells = l.counters.cells };
  same : SameButPins l.initial.counters.cells l.counters.cells;
  pins : PinsGrow l.initial.counters.cells.pairs l.counters.cells.pairs;
  others : l.counters.cells.others ≡ l.initial.counters.cells.others;
  holds : Holds g.N.CellNaming.setup.cells l.held.items l.counters.cells;
  count : length l.counters.cells.good ≡ length l.held.items;
  few : length l.held.items ≤ l.place;
  pinned : ArePinned l.place l.asked l.counters.cells;
}
