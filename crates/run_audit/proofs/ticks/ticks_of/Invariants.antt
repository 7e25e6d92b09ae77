use Rattle.std.proofs.Common.{◌≡◌, ℕ, ◌==◌, map, take}
use Rattle.script_run.specs.Moments.{offers}
use Rattle.script_run.specs.Views.{line_view}
use Rattle.run_audit.specs.Ticks.{ticks_in}
use Rattle.run_audit.proofs.ticks.ticks_of.Given as goal

abbrev pub invariant-lines : goal.invariant-lines
invariant-lines l = (m w : ℕ) → ticks_in l.ticks.entries m w ≡ offers (λ v. v == w) m (map line_view (take l.i l.lines)) (take l.i l.records)
