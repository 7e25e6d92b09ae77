use Rattle.std.proofs.Common.{◌+◌, ◌-◌, if◌then◌else◌}
use Rattle.rate_types.specs.declared.limits.TheConstants.{MOST_LINES}
use Rattle.quota_stream.specs.Tasks.{GoesOn, is_ended}
use Rattle.quota_stream.proofs.stream_task.StreamTask.finish.Given as goal

abbrev pub invariant-turns : goal.invariant-turns
invariant-turns l = GoesOn l.initial.self l.self

abbrev pub decreases-turns : goal.decreases-turns
decreases-turns l = if is_ended l.self then 0 else MOST_LINES + 1 - l.self.lines
