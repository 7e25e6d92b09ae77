use Rattle.std.proofs.Common.{refl, arith}
use Rattle.script_run.specs.Views.{line_view}
use Rattle.worker_run.proofs.Journals.{line_there}
use Rattle.worker_run.proofs.working.run_drawn.Goals as goal

pub returns-clause-step : goal.returns-clause-step
returns-clause-step g c = record {
  line = line_view c.in_ok-line.line;
  numbered = omega arith;
  there = line_there (g.L.ScriptLines.lines c.args.run.now.lines.now) c.args.number (line_view c.in_ok-line.line) c.in_ok-line.ensures;
  by_worker = refl;
  by_version = c.version.ensures;
  at = c.moment.ensures;
  step = c.in_ok-outcome.ensures.step;
}
