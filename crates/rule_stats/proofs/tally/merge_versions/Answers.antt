use Rattle.std.proofs.Common.{arith}
use Rattle.std.proofs.lemmas.Grind.{common_steps}
use Rattle.rule_stats.specs.declared.tally.TheConstants.{MOST_NOTES}
use Rattle.rule_stats.proofs.Merging.{here_below, there_below, next_version}
use Rattle.rule_stats.proofs.tally.merge_versions.Goals as goal

pub merge-requires-clause-these : goal.merge-requires-clause-these
merge-requires-clause-these c =
    here_below c.args.versions.now.items c.places.versions.items c.args.others.now c.places.place (omega (arith, c.places.invariant.long, c.places-test.true))
    c.places.invariant.sums c.index_mut.result.now c.index_mut.ensures.value MOST_NOTES c.requires.these

pub merge-requires-clause-others : goal.merge-requires-clause-others
merge-requires-clause-others c =
    there_below MOST_NOTES c.args.others.now c.places.place c.index-others-place.result (omega (arith, c.places-test.true)) c.index-others-place.is c.requires.others

pub places-preserved : goal.places-preserved
places-preserved c = record {
  long = grind (arith, common_steps);
  sums = next_version c.args.versions.now.items c.places.versions.items c.args.others.now c.places.place
      (omega (arith, c.places.invariant.long, c.places-test.true)) c.places.invariant.sums c.index_mut.result.now c.index_mut.ensures.value
      c.index-others-place.result (omega (arith, c.places-test.true)) c.index-others-place.is c.merge.new.self c.in_ok-merge.ensures.sums;
}
