use Rattle.std.proofs.Common.{◌≡◌, ◌||◌}
use Rattle.rate_types.specs.declared.counter_key.CounterKey.{CounterKey}
use Rattle.rls_core.specs.Sums.{has_sum}
use Rattle.script_run.specs.Named.{is_among}
use Rattle.run_audit.proofs.counters.distinct.Given as goal

abbrev pub invariant-counters : goal.invariant-counters
invariant-counters l = (c : CounterKey) → (has_sum l.sums c || is_among l.counter-iterator.rest.items c) ≡ is_among l.fn.counters.items c
