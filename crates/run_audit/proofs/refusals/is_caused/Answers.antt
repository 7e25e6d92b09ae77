use Rattle.std.proofs.Common.{ap, map}
use Rattle.reply_text.specs.declared.record.Record.{Record}
use Rattle.script_run.specs.Views.{line_view}
use Rattle.run_audit.specs.VersionAt.{config_at}
use Rattle.run_audit.proofs.CausesBy.{caused_by}
use Rattle.run_audit.proofs.refusals.is_caused.Goals as goal

pub returns : goal.returns
returns c =
    let run = c.args.run.now in
    caused_by (config_at run.configs.now) run.workers run.cells (map line_view run.lines.now) run.records.now (map line_view c.args.before.now)
    c.args.earlier.now c.args.rec.now (line_view c.args.line.now) c.rec.inside.outcome c.in_ok-caused.caused
    (ap (λ (r : Record). r.outcome) c.rec.view_is) c.in_ok-caused.ensures
