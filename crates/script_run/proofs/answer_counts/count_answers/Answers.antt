use Rattle.std.proofs.Common.{◌≡◌, List, ap, ◌∙◌, arith}
use Rattle.rate_types.specs.Sums.{total}
use Rattle.reply_text.specs.declared.record.Record.{Record}
use Rattle.script_run.specs.Answers.{is_admitted, is_denied, admitted_among, denied_among}
use Rattle.script_run.proofs.Counting.{all_counts}
use Rattle.script_run.proofs.answer_counts.count_answers.Goals as goal

pub loop-journal-init : goal.loop-journal-init
loop-journal-init c =
    let js : List (List Record) = c.into_journals-journal-items.result.items in
    let admitted = all_counts (λ r. is_admitted r.outcome) c.args.records js c.into_journals-journal-items.ensures in
    let denied = all_counts (λ r. is_denied r.outcome) c.args.records js c.into_journals-journal-items.ensures in
    let whole : c.into_iter-journal-iterator.result.rest.items ≡ js = c.into_iter-journal-iterator.ensures.into_iter_gives.0 in
    let first : total admitted_among c.into_iter-journal-iterator.result.rest.items ≡ admitted_among c.args.records = ap (total admitted_among) whole ∙ admitted.0 in
    let second : total denied_among c.into_iter-journal-iterator.result.rest.items ≡ denied_among c.args.records = ap (total denied_among) whole ∙ denied.0 in
    record {
      admitted = omega (arith, first);
      denied = omega (arith, second);
    }
