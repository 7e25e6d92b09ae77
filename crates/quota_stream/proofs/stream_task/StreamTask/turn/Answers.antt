use Rattle.std.proofs.Common.{ap, arith}
use Rattle.quota_stream.specs.Tasks.{Task}
use Rattle.quota_stream.proofs.Tasking.{stopped}
use Rattle.quota_stream.proofs.stream_task.StreamTask.turn.Goals as goal

pub returns-in-Err-clause-goes_on : goal.returns-in-Err-clause-goes_on
returns-in-Err-clause-goes_on c = λ whole bytes stands.
    stopped c.lines.self c.stop.new.self c.in-Err.fault (ap (λ (t : Task). t.fault) c.stop.ensures) c.in-Err.ensures.fault whole bytes
    (c.lines.invariant.goes_on whole bytes stands)

pub returns-in-Err-clause-most : goal.returns-in-Err-clause-most
returns-in-Err-clause-most c =
    omega (arith, ap (λ (t : Task). t.lines) c.stop.ensures, c.in-Err.ensures.lines, c.lines.invariant.lines, c.lines-test.true)

pub lines-preserved : goal.lines-preserved
lines-preserved c = record {
  goes_on = λ whole bytes stands. c.in_default.ensures.goes_on whole bytes (c.lines.invariant.goes_on whole bytes stands);
  lines = omega (arith, c.in_default.ensures.one.0, c.lines.invariant.lines);
}
