use Rattle.std.proofs.Common.{◌≡◌, ◌||◌}
use Rattle.rate_types.specs.declared.counter_key.CounterKey.{CounterKey}
use Rattle.script_run.specs.Named.{is_among}
use Rattle.run_audit.proofs.bound.put_all.Given as goal

abbrev pub invariant-more : goal.invariant-more
invariant-more l = (c : CounterKey) → (is_among l.counters.keys c || is_among l.counter-iterator.rest.items c)
    ≡ (is_among l.initial.counters.keys c || is_among l.fn.more.items c)
