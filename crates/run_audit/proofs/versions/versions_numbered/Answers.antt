use Rattle.std.proofs.Common.{◌<◌, map, ◌∙◌, ap, ◌&&◌, arith}
use Rattle.rate_types.specs.declared.limits.TheConstants.{MOST_VERSIONS}
use Rattle.script_run.specs.Views.{line_view}
use Rattle.run_audit.proofs.Tests.{renamed}
use Rattle.run_audit.proofs.RecordOfBy.{numbered_by}
use Rattle.run_audit.proofs.versions.versions_numbered.Goals as goal

pub returns : goal.returns
returns c =
    let few : c.installs-most.result < MOST_VERSIONS = omega arith in
    renamed _ _ (c.both-stands.ensures ∙ ap (λ b. b && c.in_ok-above.above) c.both-first.ensures)
    (numbered_by c.installs-most.result (map line_view c.args.lines.now) c.args.records.now c.in_ok-once.once c.all_known-known.result
    c.in_ok-above.above c.installs-most.ensures few c.in_ok-once.ensures c.all_known-known.ensures c.in_ok-above.ensures)
