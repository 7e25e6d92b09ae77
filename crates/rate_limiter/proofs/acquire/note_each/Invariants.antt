use Rattle.std.proofs.Common.{◌≡◌, []}
use Rattle.rate_limiter.specs.Names.{name_keys}
use Rattle.rate_limiter.specs.Used.{HasUsed}
use Rattle.rate_limiter.proofs.Noting.{AreWithin}
use Rattle.rate_limiter.proofs.acquire.note_each.Given as goal

abbrev pub invariant-names : goal.invariant-names
invariant-names g l = record {
  rest : l.counters ≡ record l.initial.counters { known = l.counters.known };
  uses : HasUsed [] (name_keys l.initial.counters.cells.moment l.names) l.initial.counters.known l.counters.known;
  noted : AreWithin l.names l.place l.initial.counters.cells.moment l.counters.known;
}
