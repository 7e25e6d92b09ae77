use Rattle.std.proofs.Common.{length, map, take, ap, ◌∙◌}
use Rattle.std.proofs.lemmas.List.{length-map}
use Rattle.script_run.specs.Views.{line_view}
use Rattle.run_audit.specs.VersionAt.{config_at}
use Rattle.run_audit.specs.declared.asked.Asked.TheVariants.{Bound}
use Rattle.run_audit.proofs.CausesBy.{live_by}
use Rattle.run_audit.proofs.Tests.{renamed}
use Rattle.run_audit.proofs.refusals.may_live.Goals as goal

pub returns : goal.returns
returns c =
    let run = c.args.run.now in
    let n = length c.args.before.now in
    let ls = map line_view run.lines.now in
    let many = length-map c.args.before.now line_view in
    live_by (config_at run.configs.now) ls run.records.now (map line_view c.args.before.now) c.args.earlier.now c.args.rec.now
    c.worker_of-worker.result c.moment_of-moment.result n c.args.live c.are_asked.result c.worker_of-worker.ensures c.moment_of-moment.ensures
    (c.requires.lines_first ∙ ap (λ k. take k ls) many) (c.requires.records_first ∙ ap (λ k. take k run.records.now) many)
    (renamed _ _ c.are_asked.ensures (c.requires.of_run.counted (Bound c.worker_of-worker.result n) c.moment_of-moment.result c.args.live))
