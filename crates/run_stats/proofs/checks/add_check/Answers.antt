use Rattle.std.proofs.Common.{◌≡◌, ◌≤◌, ◌<◌, ◌++◌, ◌⊎◌, ℕ, List, take, length, min, get_or, unwrap_or, arith, ap, ◌∙◌, subst}
use Rattle.rate_types.specs.declared.request.Descriptor.{Descriptor}
use Rattle.rule_stats.specs.Statistics.{Note}
use Rattle.rule_stats.specs.Sums.{AreSums}
use Rattle.run_stats.specs.RunStats.{notes_of_check}
use Rattle.run_stats.proofs.Noting.{next_sums, all_notes}
use Rattle.run_stats.proofs.checks.add_check.Goals as goal

pub descriptors-preserved : goal.descriptors-preserved
descriptors-preserved c =
    let same : c.descriptors-descriptors.result.now ≡ c.args.request.now.descriptors = c.descriptors-descriptors.ensures.all in
    let both = c.min-both.ensures in
    let lens : length c.descriptors-descriptors.result.now ≡ length c.args.request.now.descriptors = ap (λ (ds : List Descriptor). length ds) same in
    let low : c.descriptors.place < length c.args.request.now.descriptors = omega (arith, both, c.descriptors-test.true, lens) in
    let few : c.descriptors.place < length c.args.statuses.now = omega (arith, both, c.descriptors-test.true) in
    let d = c.index-descriptors-place.result in
    let hits : c.unwrap_or-hits.result ≡ unwrap_or (get_or c.args.request.now.descriptors c.descriptors.place d).hits c.args.request.now.hits =
    c.unwrap_or-hits.ensures
    ∙ ap (λ (ds : List Descriptor). unwrap_or (get_or ds c.descriptors.place d).hits c.hits.result) same
    ∙ ap (λ (n : ℕ). unwrap_or (get_or c.args.request.now.descriptors c.descriptors.place d).hits n) c.hits.ensures.same in
    record {
      notes = omega (arith, c.in_ok-add.ensures.notes, c.descriptors.invariant.notes);
      sums = λ ns are. next_sums c.args.version c.args.request.now c.args.request.now.descriptors c.args.statuses.now c.descriptors.place d _ low few
          c.unwrap_or-hits.result hits ns c.add.new.self.versions
          (c.in_ok-add.ensures.sums (ns ++ notes_of_check c.args.version c.args.request.now (take c.descriptors.place c.args.request.now.descriptors)
          (take c.descriptors.place c.args.statuses.now)) (c.descriptors.invariant.sums ns are));
    }

ended : (a b p both : ℕ) → both ≡ min a b → both ≤ p → (a ≤ p) ⊎ (b ≤ p)
ended a b p both is end = grind (arith, is, end)

pub returns-clause-sums : goal.returns-clause-sums
returns-clause-sums c ns are =
    let same : c.descriptors-descriptors.result.now ≡ c.args.request.now.descriptors = c.descriptors-descriptors.ensures.all in
    let lens : length c.descriptors-descriptors.result.now ≡ length c.args.request.now.descriptors = ap (λ (ds : List Descriptor). length ds) same in
    let both : c.min-both.result ≡ min (length c.args.request.now.descriptors) (length c.args.statuses.now) = omega (arith, c.min-both.ensures, lens) in
    subst (λ (xs : List Note). AreSums (ns ++ xs) c.descriptors.tally.versions)
    (all_notes c.args.version c.args.request.now c.args.request.now.descriptors c.args.statuses.now c.descriptors.place
    (ended (length c.args.request.now.descriptors) (length c.args.statuses.now) c.descriptors.place c.min-both.result both c.descriptors-test.false))
    (c.descriptors.invariant.sums ns are)
