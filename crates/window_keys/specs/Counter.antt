-- The counter of a descriptor, and the end of its window.
use Rattle.std.specs.Prelude.{ℕ, ◌+◌, List}
use Rattle.rate_types.specs.declared.unit.Unit.{Unit}
use Rattle.rate_types.specs.declared.request.Descriptor.{Descriptor}
use Rattle.rate_types.specs.declared.counter_key.CounterKey.{CounterKey}
use Rattle.rate_types.specs.Units.{seconds_of}
use Rattle.window_keys.specs.Window.{window_start}

-- the domain, the descriptor's entries and the unit, in the window of a moment
abbrev pub counter_of : List ℕ → Descriptor → Unit → ℕ → CounterKey
counter_of domain descriptor unit moment = record {
  name = record { domain = domain; entries = descriptor.entries; unit = unit };
  start = window_start unit moment;
}

-- the end of a counter's window
abbrev pub window_end_of : CounterKey → ℕ
window_end_of counter = counter.start + seconds_of counter.name.unit
