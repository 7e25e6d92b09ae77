use Rattle.std.proofs.Common.{◌≡◌, ◌||◌, drop, map}
use Rattle.rate_types.specs.declared.counter_key.CounterKey.{CounterKey}
use Rattle.script_run.specs.Views.{line_view}
use Rattle.run_audit.specs.Asked.{is_told}
use Rattle.run_audit.specs.ByEnd.{binder_at, is_asked_of}
use Rattle.run_audit.specs.VersionAt.{config_at}
use Rattle.run_audit.specs.declared.asked.Asked.{Asked}
use Rattle.run_audit.proofs.NamedBy.{left}
use Rattle.run_audit.proofs.named_counters.named_counters.Given as goal

abbrev pub invariant-lines : goal.invariant-lines
invariant-lines l = (asked : Asked) (c : CounterKey) → (is_asked_of asked (binder_at l.counters.entries c)
    || is_told (left asked l.i) (config_at l.configs) (drop l.i (map line_view l.lines)) (drop l.i l.records) c)
    ≡ is_told asked (config_at l.configs) (map line_view l.lines) l.records c
