use Rattle.std.proofs.Common.{◌≡◌, ◌++◌, List, false, string_bytes}
use Rattle.serde_json.specs.Written.{items_text}
use Rattle.rule_stats.specs.declared.numbers.RuleNumbers.{RuleNumbers}
use Rattle.shared_stats.specs.Passes.{stats_of, noted_of, notes_of, reads_of}
use Rattle.shared_stats.specs.Reading.{IsReading}
use Rattle.shared_stats.specs.Text.{counted_items}
use Rattle.shared_stats.proofs.shared_stats.SharedStats.text.Given as goal

abbrev pub invariant-rules : goal.invariant-rules
invariant-rules l = record {
  pass : stats_of l.pass ≡ stats_of l.fn.pass;
  noted : noted_of l.pass ≡ noted_of l.fn.pass;
  text : (found : List RuleNumbers) × IsReading l.rule (notes_of l.fn.pass) (reads_of l.fn.pass) (reads_of l.pass) found
      × ((more : List RuleNumbers) → string_bytes l.out ++ items_text l.later (counted_items l.rule more)
      ≡ string_bytes l.initial.out ++ items_text false (counted_items 0 (found ++ more)));
}
