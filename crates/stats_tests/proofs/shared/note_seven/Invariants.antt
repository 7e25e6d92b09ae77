use Rattle.std.proofs.Common.{◌≡◌}
use Rattle.shared_stats.specs.Passes.{stats_of}
use Rattle.stats_tests.proofs.shared.note_seven.Given as goal

abbrev pub invariant-loop-before : goal.invariant-loop-before
invariant-loop-before l = stats_of l.pass ≡ stats_of l.fn.pass
