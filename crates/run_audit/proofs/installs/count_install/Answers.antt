use Rattle.std.proofs.Common.{◌+◌, ◌==◌, sym, ap, ◌∙◌}
use Rattle.script_run.specs.Versions.{is_installed}
use Rattle.run_audit.specs.Greatest.{number_in}
use Rattle.run_audit.proofs.InstallCounts.{none_added, one_added}
use Rattle.run_audit.proofs.installs.count_install.Goals as goal

pub returns-then-not-installed : goal.returns-then-not-installed
returns-then-not-installed c = λ v.
    none_added (number_in c.args.counts.now.entries v) (is_installed c.args.rec.now.outcome) (c.args.rec.now.version == v)
    (sym c.has_installed-installed.ensures ∙ c.if-not-installed.true)

pub returns : goal.returns
returns c = λ v.
    one_added c.args.counts.now.entries c.put.new.numbers.entries (is_installed c.args.rec.now.outcome) c.args.rec.now.version
    c.version_of-version.result (c.number_in-count.result + 1) v (sym c.has_installed-installed.ensures ∙ c.if-not-installed.false)
    c.version_of-version.ensures (ap (λ n. n + 1) c.number_in-count.ensures) (c.in_ok-put.ensures v)
