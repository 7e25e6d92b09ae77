use Rattle.std.proofs.Common.{◌≡◌, ℕ, ◌≤◌, ◌==◌, ◌&&◌}
use Rattle.std.specs.Prelude.{count_by}
use Rattle.script_run.specs.Versions.{is_installed}
use Rattle.run_audit.proofs.versions.all_once.Given as goal

abbrev pub invariant-versions : goal.invariant-versions
invariant-versions l = (v : ℕ) → 1 ≤ v → v ≤ l.k → count_by (λ r. is_installed r.outcome && (r.version == v)) l.records ≡ 1
