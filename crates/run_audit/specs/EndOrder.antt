-- Inside: counters in order of the ends of their windows.
use Rattle.std.specs.Prelude.{◌==◌, Bool}
use Rattle.std.specs.declared.cmp.Ordering.{Ordering}
use Rattle.std.specs.Ordering.{nat_cmp, on, then_cmp, eq_of_both}
use Rattle.rate_types.specs.Counters.{key_cmp, same_counter}
use Rattle.run_audit.specs.declared.counter_by_end.CounterByEnd.{CounterByEnd}

-- by the end of the window, then by the counter
abbrev pub end_cmp : CounterByEnd → CounterByEnd → Ordering
end_cmp = then_cmp (on (λ k. k.end) nat_cmp) (on (λ k. k.counter) key_cmp)

-- the same end and the same counter
abbrev pub same_by_end : CounterByEnd → CounterByEnd → Bool
same_by_end = eq_of_both (on (λ k. k.end) ◌==◌) (on (λ k. k.counter) same_counter)
