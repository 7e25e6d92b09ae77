use Rattle.quota_stream.proofs.task_future.StreamTaskFuture.poll.Goals as goal

pub returns-then-is_ended-clause-value : goal.returns-then-is_ended-clause-value
returns-then-is_ended-clause-value c = λ whole bytes stands. c.take_answer.ensures whole bytes (c.turn.ensures.goes_on whole bytes stands)

pub returns-else-is_ended-clause-same : goal.returns-else-is_ended-clause-same
returns-else-is_ended-clause-same c =
    rw c.yield_now.ensures.pending (λ x gives whole bytes stands. gives whole bytes (c.turn.ensures.goes_on whole bytes stands))
