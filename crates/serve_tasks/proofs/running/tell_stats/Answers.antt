use Rattle.std.specs.Prelude.{option_to_list}
use Rattle.http_endpoint.specs.Answers.{statistics_asked}
use Rattle.serve_tasks.proofs.Made.{lead_statistics}
use Rattle.serve_tasks.proofs.running.tell_stats.Goals as goal

pub returns-clause-told : goal.returns-clause-told
returns-clause-told g c = (
  option_to_list (statistics_asked c.stats-came.result),
  lead_statistics g.K.Checks.answers c.args.checks.now c.stats-came.new.self c.stats-came.result c.stats-came.ensures.asked c.stats-came.ensures.memory,
  λ first asked k. c.answer_stats.ensures.answered first asked k,
)
