use Rattle.std.proofs.Common.{◌≡◌, ◌++◌, drop}
use Rattle.std.specs.List.{flat_map}
use Rattle.rls_core.specs.Reply.{counter_under, counters_named, found_for}
use Rattle.run_audit.proofs.counters.counters_named.Given as goal

abbrev pub invariant-descriptors : goal.invariant-descriptors
invariant-descriptors l = l.counters.items ++ flat_map (λ d. counter_under l.request l.moment d (found_for l.index l.request d)) (drop l.i l.descriptors)
    ≡ counters_named l.index l.request l.moment
