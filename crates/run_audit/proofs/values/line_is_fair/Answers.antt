use Rattle.std.proofs.Common.{subst}
use Rattle.reply_text.specs.declared.record.Record.{Record}
use Rattle.script_run.specs.Views.{line_view}
use Rattle.run_audit.proofs.RunValues.{LineLearns}
use Rattle.run_audit.proofs.values.line_is_fair.Goals as goal

pub returns : goal.returns
returns c =
    subst (λ (r : Record). LineLearns c.args.values.now.entries c.outcome_is_fair.new.values.entries c.in_ok-fair.fair
    (line_view c.args.line.now) r) c.rec.view_is c.in_ok-fair.ensures
