use Rattle.quota_stream.specs.Tasks.{is_ended}
use Rattle.quota_stream.proofs.Working.{fewer_lines}
use Rattle.quota_stream.proofs.stream_task.StreamTask.finish.Goals as goal

pub turns-smaller : goal.turns-smaller
turns-smaller c =
    rw (← c.turns-test.ensures.ended)
    (fewer_lines (is_ended c.turn.new.self) c.turns.self.lines c.turn.new.self.lines c.is_ended.ensures.few c.turn.ensures.whole)

pub turns-preserved : goal.turns-preserved
turns-preserved c = λ whole bytes stands. c.turn.ensures.goes_on whole bytes (c.turns.invariant whole bytes stands)

pub returns : goal.returns
returns c = λ whole bytes stands. c.take_answer.ensures whole bytes (c.turns.invariant whole bytes stands)
