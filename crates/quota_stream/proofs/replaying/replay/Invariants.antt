use Rattle.std.proofs.Common.{◌≤◌, ◌-◌}
use Rattle.rate_types.specs.declared.limits.TheConstants.{MOST_BYTES}
use Rattle.quota_stream.proofs.Rounds.{Come}
use Rattle.quota_stream.proofs.replaying.replay.Given as goal

abbrev pub invariant-turns : goal.invariant-turns
invariant-turns g l = record {
  come : Come (g.S.Source.history l.initial.source) (g.S.Source.history l.source) (g.K.Sink.history l.initial.sink) (g.K.Sink.history l.sink)
      l.initial.replay l.replay l.count;
  few : l.count ≤ MOST_BYTES;
  reads : g.S.Source.faults l.initial.source ≤ g.S.Source.faults l.source;
  writes : g.K.Sink.faults l.initial.sink ≤ g.K.Sink.faults l.sink;
}

abbrev pub decreases-turns : goal.decreases-turns
decreases-turns g l = MOST_BYTES - l.count
