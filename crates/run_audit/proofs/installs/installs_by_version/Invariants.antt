use Rattle.std.proofs.Common.{◌≡◌, ℕ, ◌==◌, ◌&&◌, take}
use Rattle.std.specs.Prelude.{count_by}
use Rattle.script_run.specs.Versions.{is_installed}
use Rattle.run_audit.specs.Greatest.{number_in}
use Rattle.run_audit.proofs.installs.installs_by_version.Given as goal

abbrev pub invariant-records : goal.invariant-records
invariant-records l = (v : ℕ) → number_in l.counts.entries v ≡ count_by (λ r. is_installed r.outcome && (r.version == v)) (take l.i l.records)
