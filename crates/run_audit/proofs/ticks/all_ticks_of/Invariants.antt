use Rattle.std.proofs.Common.{◌≡◌, ℕ, true, map, take}
use Rattle.script_run.specs.Moments.{offers}
use Rattle.script_run.specs.Views.{line_view}
use Rattle.run_audit.specs.Ticks.{all_in}
use Rattle.run_audit.proofs.ticks.all_ticks_of.Given as goal

abbrev pub invariant-lines : goal.invariant-lines
invariant-lines l = (m : ℕ) → all_in l.ticks.entries m ≡ offers (λ v. true) m (map line_view (take l.i l.lines)) (take l.i l.records)
