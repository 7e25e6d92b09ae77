use Rattle.std.proofs.Common.{◌≡◌, drop, map}
use Rattle.std.specs.Prelude.{max}
use Rattle.script_run.specs.Moments.{moment_after}
use Rattle.script_run.specs.Views.{line_view}
use Rattle.run_audit.proofs.totals.moment_after.Given as goal

abbrev pub invariant-lines : goal.invariant-lines
invariant-lines l = max l.moment (moment_after l.start (drop l.i (map line_view l.lines))) ≡ moment_after l.start (map line_view l.lines)
