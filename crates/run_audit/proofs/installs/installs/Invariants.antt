use Rattle.std.proofs.Common.{◌≡◌, ◌≤◌, take}
use Rattle.std.specs.Prelude.{count_by}
use Rattle.script_run.specs.Versions.{is_installed}
use Rattle.run_audit.proofs.installs.installs.Given as goal

abbrev pub invariant-records : goal.invariant-records
invariant-records l = record {
  count : l.count ≡ count_by (λ r. is_installed r.outcome) (take l.rec-index l.records);
  few : l.count ≤ l.rec-index;
}
