use Rattle.std.proofs.Common.{◌≤◌, ◌+◌, ◌++◌, List, take}
use Rattle.rule_stats.specs.Statistics.{Note}
use Rattle.rule_stats.specs.Sums.{AreSums}
use Rattle.run_stats.specs.RunStats.{notes_of_check}
use Rattle.run_stats.proofs.checks.add_check.Given as goal

abbrev pub invariant-descriptors : goal.invariant-descriptors
invariant-descriptors l = record {
  notes : l.tally.notes ≤ l.fn.tally.notes + l.place;
  sums : (notes : List Note) → AreSums notes l.fn.tally.versions
      → AreSums (notes ++ notes_of_check l.version l.request (take l.place l.request.descriptors) (take l.place l.statuses)) l.tally.versions;
}
