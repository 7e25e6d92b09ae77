use Rattle.std.proofs.Common.{◌≡◌, ◌||◌, ◌&&◌}
use Rattle.rate_types.specs.declared.counter_key.CounterKey.{CounterKey}
use Rattle.script_run.specs.Named.{is_among}
use Rattle.run_audit.specs.Asked.{is_asked}
use Rattle.run_audit.specs.ByEnd.{binder_at, is_asked_of}
use Rattle.run_audit.specs.declared.asked.Asked.{Asked}
use Rattle.run_audit.proofs.named_counters.add_all.Given as goal

abbrev pub invariant-more : goal.invariant-more
invariant-more l = (asked : Asked) (c : CounterKey)
    → (is_asked_of asked (binder_at l.counters.entries c) || (is_asked asked l.binder && is_among l.counter-iterator.rest.items c))
    ≡ (is_asked_of asked (binder_at l.initial.counters.entries c) || (is_asked asked l.binder && is_among l.fn.more.items c))
