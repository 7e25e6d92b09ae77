use Rattle.std.proofs.Common.{◌≤◌, length}
use Rattle.quota_stream.specs.Output.{with_feeds}
use Rattle.quota_stream.proofs.Feeds.{Written}
use Rattle.quota_stream.proofs.writing.write_lines.Given as goal

abbrev pub invariant-lines : goal.invariant-lines
invariant-lines g l = record {
  written : Written (with_feeds l.text) (with_feeds l.rest) (g.K.Sink.history l.initial.sink) (g.K.Sink.history l.sink);
  later : g.K.Sink.faults l.initial.sink ≤ g.K.Sink.faults l.sink;
}

abbrev pub decreases-lines : goal.decreases-lines
decreases-lines g l = length l.rest
