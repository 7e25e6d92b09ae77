use Rattle.std.proofs.Common.{◌≤◌, ◌-◌, length, take}
use Rattle.rate_io.specs.Events.{Grew}
use Rattle.quota_stream.specs.Progress.{Takes}
use Rattle.quota_stream.proofs.replaying.take_all.Given as goal

abbrev pub invariant-parts : goal.invariant-parts
invariant-parts g l = record {
  within : l.at ≤ length l.bytes;
  took : Grew (g.K.Sink.history l.initial.sink) (g.K.Sink.history l.sink) (Takes l.initial.replay (take l.at l.bytes) l.replay);
  later : g.K.Sink.faults l.initial.sink ≤ g.K.Sink.faults l.sink;
}

abbrev pub decreases-parts : goal.decreases-parts
decreases-parts g l = length l.bytes - l.at
