use Rattle.std.proofs.Common.{◌≡◌}
use Rattle.shared_stats.specs.Passes.{stats_of}
use Rattle.stats_tests.proofs.shared.note_rounds.Given as goal

abbrev pub invariant-loop-round : goal.invariant-loop-round
invariant-loop-round l = stats_of l.pass ≡ stats_of l.fn.pass
