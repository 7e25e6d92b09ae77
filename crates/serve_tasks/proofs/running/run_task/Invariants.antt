use Rattle.std.proofs.Common.{◌≡◌, ◌≤◌, ◌++◌, true, List}
use Rattle.rate_io.specs.Links.{LinkState}
use Rattle.http_endpoint.specs.Answers.{Asked, Lead}
use Rattle.std.specs.Option.{is_some}
use Rattle.conn_tasks.specs.Tasks.{IsOn, is_live}
use Rattle.conn_tasks.specs.declared.conn.Mode.TheVariants.{Reading}
use Rattle.serve_tasks.proofs.running.run_task.Given as goal

abbrev pub invariant-turns : goal.invariant-turns
invariant-turns g l = record {
  runs : (more : List Asked) × Lead g.K.Checks.answers l.fn.checks more l.checks
      × ((first : LinkState) (asked : List Asked) → IsOn first asked l.fn.task → IsOn first (asked ++ more) l.task);
  live : is_live l.task.mode ≡ true;
  waits : l.fn.task.link.waits ≤ l.task.link.waits;
  room : l.task.mode ≡ Reading → is_some l.spare ≡ true;
}
