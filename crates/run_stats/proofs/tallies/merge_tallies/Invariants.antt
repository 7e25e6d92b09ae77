use Rattle.std.proofs.Common.{◌≡◌, List, take, true}
use Rattle.rate_types.specs.Sums.{total}
use Rattle.reply_text.specs.declared.record.Record.{Record}
use Rattle.rule_stats.specs.Sums.{AreSums}
use Rattle.script_run.specs.Merged.{joined}
use Rattle.script_run.specs.ScriptLine.{ScriptLine}
use Rattle.run_stats.specs.RunStats.{notes_in, HaveCounted}
use Rattle.run_stats.proofs.tallies.merge_tallies.Given as goal

abbrev pub invariant-tallies : goal.invariant-tallies
invariant-tallies l = record {
  notes : l.sum.notes ≡ total (λ t. t.notes) (take l.index l.tallies);
  sums : (lines : List ScriptLine) (journals : List (List Record)) → HaveCounted true lines journals l.tallies
      → AreSums (notes_in lines (joined (take l.index journals))) l.sum.versions;
}
