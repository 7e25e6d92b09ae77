use Rattle.std.proofs.Common.{◌≡◌, ◌+◌}
use Rattle.rate_types.specs.Sums.{total}
use Rattle.script_run.specs.Answers.{admitted_among, denied_among}
use Rattle.script_run.proofs.answer_counts.count_answers.Given as goal

abbrev pub invariant-loop-journal : goal.invariant-loop-journal
invariant-loop-journal l = record {
  admitted : l.admitted + total admitted_among l.journal-iterator.rest.items ≡ admitted_among l.fn.records;
  denied : l.denied + total denied_among l.journal-iterator.rest.items ≡ denied_among l.fn.records;
}
