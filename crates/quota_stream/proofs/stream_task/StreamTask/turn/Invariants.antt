use Rattle.std.proofs.Common.{◌≡◌, ◌+◌}
use Rattle.quota_stream.specs.Tasks.{GoesOn}
use Rattle.quota_stream.proofs.stream_task.StreamTask.turn.Given as goal

abbrev pub invariant-lines : goal.invariant-lines
invariant-lines l = record {
  goes_on : GoesOn l.initial.self l.self;
  lines : l.self.lines ≡ l.initial.self.lines + l.done;
}
