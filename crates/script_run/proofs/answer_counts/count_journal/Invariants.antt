use Rattle.std.proofs.Common.{◌≡◌, ◌+◌}
use Rattle.script_run.specs.Answers.{admitted_among, denied_among}
use Rattle.script_run.proofs.answer_counts.count_journal.Given as goal

abbrev pub invariant-loop-rec : goal.invariant-loop-rec
invariant-loop-rec l = record {
  admitted : l.admitted + admitted_among l.rec-iterator.rest.items ≡ admitted_among l.fn.journal.items;
  denied : l.denied + denied_among l.rec-iterator.rest.items ≡ denied_among l.fn.journal.items;
}
