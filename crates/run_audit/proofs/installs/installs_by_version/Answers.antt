use Rattle.std.proofs.Common.{ℕ, ◌+◌, ◌==◌, ◌&&◌, cond, sym, ap, ◌∙◌, arith}
use Rattle.script_run.specs.Versions.{is_installed}
use Rattle.run_audit.specs.Greatest.{number_in}
use Rattle.run_audit.proofs.InstallCounts.{count_more, counts_few}
use Rattle.run_audit.proofs.installs.installs_by_version.Goals as goal

pub records-init : goal.records-init
records-init c = λ v. ap (λ es. number_in es v) c.new-counts.ensures.empty

pub count_install-requires : goal.count_install-requires
count_install-requires c = λ v.
    omega (
      arith,
      c.records.invariant v,
      counts_few (λ r. is_installed r.outcome && (r.version == v)) c.args.records.now c.records.i c.records-test.true,
    )

pub records-preserved : goal.records-preserved
records-preserved c = λ v.
    let r = c.index-records-i.result in
    c.in_ok-count_install.ensures v
    ∙ ap (λ (n : ℕ). n + cond (is_installed r.outcome && (r.version == v)) 1 0) (c.records.invariant v)
    ∙ sym (count_more (λ r. is_installed r.outcome && (r.version == v)) c.args.records.now c.records.i r c.records-test.true c.index-records-i.is)
