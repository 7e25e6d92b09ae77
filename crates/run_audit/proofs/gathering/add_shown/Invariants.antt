use Rattle.std.proofs.Common.{◌≡◌, ◌++◌, drop, map}
use Rattle.script_run.specs.Views.{line_view}
use Rattle.run_audit.specs.Shown.{shown_of}
use Rattle.run_audit.proofs.gathering.add_shown.Given as goal

abbrev pub invariant-lines : goal.invariant-lines
invariant-lines l = l.charges.items ++ shown_of l.kind (drop l.i (map line_view l.lines)) (drop l.i l.records)
    ≡ l.initial.charges.items ++ shown_of l.kind (map line_view l.lines) l.records
