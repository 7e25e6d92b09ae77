use Rattle.std.proofs.Common.{◌≡◌, ℕ, length, take}
use mathlib.Core.Option.{some}
use lib.ListN.{get_elem?}
use Rattle.rate_types.specs.declared.request.Descriptor.{Descriptor}
use Rattle.rate_limiter.specs.Asked.{IsAsked, founds}
use Rattle.rate_limiter.specs.Names.{names_under, name_keys}
use Rattle.rate_limiter.specs.Sought.{SameKnown}
use Rattle.rate_limiter.specs.Used.{asked_each}
use Rattle.rate_limiter.specs.declared.asked.Asked.{Asked}
use Rattle.rate_limiter.proofs.plan.ask_each.Given as goal

abbrev pub invariant-descriptors : goal.invariant-descriptors
invariant-descriptors g l = record {
  rest : l.counters ≡ record l.initial.counters { known = l.counters.known };
  same : SameKnown l.initial.counters.known l.counters.known;
  order : l.counters.known ≡ asked_each (name_keys l.initial.counters.cells.moment (names_under l.request (take l.place l.descriptors) (take l.place l.rules)))
      l.initial.counters.known;
  count : length l.asked.items ≡ l.place;
  founds : founds l.asked.items ≡ take l.place l.rules;
  each : (i : ℕ) (d : Descriptor) (a : Asked) → get_elem? l.descriptors i ≡ some d → get_elem? l.asked.items i ≡ some a
      → IsAsked g.N.CellNaming.setup.cells l.request l.initial.counters d a;
}
