use Rattle.std.proofs.Common.{◌≡◌, ◌++◌, not, filter}
use Rattle.script_run.specs.Named.{is_among}
use Rattle.run_audit.proofs.refusals.without.Given as goal

abbrev pub invariant-counters : goal.invariant-counters
invariant-counters l = l.left.items ++ filter (λ c. not (is_among l.bound.keys c)) l.counter-iterator.rest.items
    ≡ filter (λ c. not (is_among l.bound.keys c)) l.fn.counters.items
