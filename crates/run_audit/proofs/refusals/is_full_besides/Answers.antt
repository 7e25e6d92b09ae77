use Rattle.std.proofs.Common.{◌∙◌, ◌&&◌, ap, map}
use Rattle.script_run.specs.Views.{line_view}
use Rattle.run_audit.specs.VersionAt.{config_at}
use Rattle.run_audit.proofs.Tests.{renamed}
use Rattle.run_audit.proofs.CausesBy.{besides_by}
use Rattle.run_audit.proofs.refusals.is_full_besides.Goals as goal

pub returns : goal.returns
returns c =
    let run = c.args.run.now in
    renamed _ _ (c.both-stands.ensures ∙ ap (λ b. b && c.may_be_named-names.result) c.both-first.ensures)
    (besides_by (config_at run.configs.now) run.workers run.cells (map line_view run.lines.now) run.records.now c.args.request.now c.args.rec.now
    c.moment_of-moment.result c.index_of-index.result.now c.args.numbers.live c.args.numbers.held c.args.numbers.wanted
    c.are_too_many-many.result c.in_ok-wants.wants c.may_be_named-names.result c.moment_of-moment.ensures c.index_of-index.ensures
    c.are_too_many-many.ensures c.in_ok-wants.ensures c.may_be_named-names.ensures)
