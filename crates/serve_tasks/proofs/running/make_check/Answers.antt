use Rattle.std.proofs.Common.{refl}
use Rattle.http_endpoint.specs.Answers.{check}
use Rattle.serve_tasks.proofs.running.make_check.Goals as goal

pub returns-clause-made : goal.returns-clause-made
returns-clause-made g c = (
  check (record { request = c.args.request; now = c.args.moment; result = c.check-came.result }),
  (c.check-came.new.self, c.check-came.ensures, refl),
  λ first asked k. c.answer.ensures.answered first asked c.args.request c.args.moment k,
)
