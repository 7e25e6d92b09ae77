use Rattle.std.proofs.Common.{◌<◌, ◌≤◌, length, min, arith, add-one, ◌∙◌}
use Rattle.run_text.specs.Pairs.{status_at}
use Rattle.run_text.proofs.Lists.{one_more_pair, all_pairs}
use Rattle.run_text.proofs.Pairs.{pairs_seen}
use Rattle.run_text.proofs.statuses.statuses_in.Goals as goal

pub pairs-preserved : goal.pairs-preserved
pairs-preserved c =
    let first : c.pairs.i < length c.args.counts.now = omega arith in
    let second : c.pairs.i < length c.args.statuses.now = omega arith in
    let step = one_more_pair status_at c.pairs.i c.args.counts.now c.args.statuses.now c.index-counts-i.result c.index-statuses-i.result first second in
    rw add-one (cc (step, c.in_ok-push.ensures.items, c.pairs.invariant, c.index-counts-i.is, c.index-statuses-i.is, c.status_at.ensures))

pub returns : goal.returns
returns c =
    let all : min (length c.args.counts.now) (length c.args.statuses.now) ≤ c.pairs.i = omega arith in
    c.pairs.invariant ∙ all_pairs status_at c.pairs.i c.args.counts.now c.args.statuses.now all ∙ pairs_seen c.args.counts.now c.args.statuses.now
