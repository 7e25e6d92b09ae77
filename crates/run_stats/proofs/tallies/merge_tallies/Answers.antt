use Rattle.std.proofs.Common.{◌≤◌, ◌+◌, List, length, take, arith, subst}
use Rattle.reply_text.specs.declared.record.Record.{Record}
use Rattle.rule_stats.specs.Sums.{AreSums}
use Rattle.script_run.specs.Merged.{joined}
use Rattle.run_stats.specs.RunStats.{notes_in}
use Rattle.run_stats.proofs.Gathering.{next_tally, all_journals, next_notes, few_notes, run_sums}
use Rattle.run_stats.proofs.tallies.merge_tallies.Goals as goal

pub merge-requires : goal.merge-requires
merge-requires c =
    let next = next_notes c.args.tallies.now c.tallies.index c.index-tallies-index.result (omega (arith, c.tallies-test.true)) c.index-tallies-index.is in
    record {
      room = omega (arith, c.requires.room, c.tallies.invariant.notes, next, few_notes c.args.tallies.now (c.tallies.index + 1));
    }

pub tallies-preserved : goal.tallies-preserved
tallies-preserved c =
    let i = c.tallies.index in
    let ts = c.args.tallies.now in
    let next = next_notes ts i c.index-tallies-index.result (omega (arith, c.tallies-test.true)) c.index-tallies-index.is in
    record {
      notes = omega (arith, c.in_ok-sum.ensures.notes, c.tallies.invariant.notes, next);
      sums = λ lines journals have. next_tally lines journals ts i c.index-tallies-index.result have (omega (arith, c.tallies-test.true))
          c.index-tallies-index.is c.in_ok-sum.sum.versions
          (λ others those. c.in_ok-sum.ensures.sums (notes_in lines (joined (take i journals))) others (c.tallies.invariant.sums lines journals have) those);
    }

pub returns : goal.returns
returns c lines journals records have merges =
    let end : length c.args.tallies.now ≤ c.tallies.index = omega (arith, c.tallies-test.false) in
    run_sums lines journals records merges c.tallies.sum.versions
    (subst (λ (rs : List Record). AreSums (notes_in lines rs) c.tallies.sum.versions) (all_journals lines journals c.args.tallies.now c.tallies.index have end)
    (c.tallies.invariant.sums lines journals have))
