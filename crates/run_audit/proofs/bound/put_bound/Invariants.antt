use Rattle.std.proofs.Common.{ℕ, take, map}
use Rattle.script_run.specs.Views.{line_view}
use Rattle.run_audit.specs.Bound.{KeepBound}
use Rattle.run_audit.specs.VersionAt.{config_at}
use Rattle.run_audit.proofs.bound.put_bound.Given as goal

abbrev pub invariant-lines : goal.invariant-lines
invariant-lines l = (m : ℕ)
    → KeepBound (config_at l.configs) (take l.fn.from (map line_view l.before)) (take l.fn.from l.earlier) m l.initial.counters.keys
    → KeepBound (config_at l.configs) (take l.i (map line_view l.before)) (take l.i l.earlier) m l.counters.keys
