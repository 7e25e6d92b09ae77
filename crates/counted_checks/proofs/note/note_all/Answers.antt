use Rattle.std.proofs.Common.{◌≡◌, ◌≤◌, ◌<◌, ◌⊎◌, ℕ, List, length, min, get_or, unwrap_or, arith, ap, ◌∙◌}
use Rattle.std.specs.Option.{option_map}
use Rattle.rate_types.specs.declared.request.Descriptor.{Descriptor}
use Rattle.rls_core.specs.declared.status.Status.{Status}
use Rattle.counted_checks.specs.Counting.{noting}
use Rattle.counted_checks.proofs.Noting.{next_noted, all_noted}
use Rattle.counted_checks.proofs.note.note_all.Goals as goal

pub descriptors-preserved : goal.descriptors-preserved
descriptors-preserved c =
    let same : c.descriptors-descriptors.result.now ≡ c.args.request.now.descriptors = c.descriptors-descriptors.ensures.all in
    let both = c.min-both.ensures in
    let lens : length c.descriptors-descriptors.result.now ≡ length c.args.request.now.descriptors = ap (λ (ds : List Descriptor). length ds) same in
    let low : c.descriptors.place < length c.args.request.now.descriptors = omega (arith, both, c.descriptors-test.true, lens) in
    let few : c.descriptors.place < length c.args.statuses.now = omega (arith, both, c.descriptors-test.true) in
    let d = c.index-descriptors-place.result in
    let hits : c.unwrap_or-hits.result ≡ unwrap_or (get_or c.args.request.now.descriptors c.descriptors.place d).hits c.args.request.now.hits =
    c.unwrap_or-hits.ensures
    ∙ ap (λ (ds : List Descriptor). unwrap_or (get_or ds c.descriptors.place d).hits c.hits.result) same
    ∙ ap (λ (n : ℕ). unwrap_or (get_or c.args.request.now.descriptors c.descriptors.place d).hits n) c.hits.ensures.same in
    next_noted c.args.request.now c.args.request.now.descriptors c.args.statuses.now c.descriptors.place d _ low few
    c.unwrap_or-hits.result hits _ _ _ c.descriptors.invariant c.note.ensures

ended : (a b p both : ℕ) → both ≡ min a b → both ≤ p → (a ≤ p) ⊎ (b ≤ p)
ended a b p both is end = grind (arith, is, end)

pub returns : goal.returns
returns c =
    let same : c.descriptors-descriptors.result.now ≡ c.args.request.now.descriptors = c.descriptors-descriptors.ensures.all in
    let lens : length c.descriptors-descriptors.result.now ≡ length c.args.request.now.descriptors = ap (λ (ds : List Descriptor). length ds) same in
    let both : c.min-both.result ≡ min (length c.args.request.now.descriptors) (length c.args.statuses.now) = omega (arith, c.min-both.ensures, lens) in
    c.descriptors.invariant ∙ ap (λ (ns : List (ℕ × Status)). option_map (noting ns) c.args.stats.now)
    (all_noted c.args.request.now c.args.request.now.descriptors c.args.statuses.now c.descriptors.place
    (ended (length c.args.request.now.descriptors) (length c.args.statuses.now) c.descriptors.place c.min-both.result both c.descriptors-test.false))
