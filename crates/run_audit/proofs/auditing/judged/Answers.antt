use Rattle.std.proofs.Common.{map}
use Rattle.std.specs.Arc.{arc_value}
use Rattle.descriptor_tree.specs.Views.{config_view}
use Rattle.run_text.specs.Views.{shown_of}
use Rattle.script_run.specs.Views.{line_view}
use Rattle.run_audit.specs.Verdict.{PrintedRun}
use Rattle.run_audit.proofs.Verdicts.{first_1}
use Rattle.run_audit.proofs.auditing.judged.Goals as goal

pub returns-in_default : goal.returns-in_default
returns-in_default c =
    let run : PrintedRun = record {
      first = config_view (arc_value c.args.first.now);
      setup = c.args.setup;
      lines = map line_view c.args.lines.now;
      records = map shown_of c.args.said.items;
      totals = c.args.totals.now;
    } in
    let none = rw c.in_default.is at c.in_ok-records.ensures.none in
    first_1 run (none c.args.setup.workers)
