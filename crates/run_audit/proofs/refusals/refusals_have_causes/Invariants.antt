use Rattle.std.proofs.Common.{map, take}
use Rattle.script_run.specs.Views.{line_view}
use Rattle.run_audit.specs.Bound.{IsUpTo}
use Rattle.run_audit.specs.Causes.{IsCaused}
use Rattle.run_audit.specs.VersionAt.{config_at}
use Rattle.run_audit.proofs.Each.{EachBelow}
use Rattle.run_audit.proofs.refusals.refusals_have_causes.Given as goal

abbrev pub invariant-lines : goal.invariant-lines
invariant-lines l = EachBelow l.i (map line_view l.run.lines.now) l.run.records.now
    (λ before earlier k r. IsCaused (config_at l.run.configs.now) l.run.workers l.run.cells (map line_view l.run.lines.now) l.run.records.now before earlier k r)
    × IsUpTo (config_at l.run.configs.now) (take l.i (map line_view l.run.lines.now)) (take l.i l.run.records.now) l.bound
