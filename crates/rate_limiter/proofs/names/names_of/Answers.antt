use Rattle.std.proofs.Common.{◌∙◌, ◌++◌, List, get_or, take, sym, ap, arith}
use Rattle.rate_types.specs.declared.counter_name.CounterName.{CounterName}
use Rattle.rate_types.specs.declared.request.Descriptor.{Descriptor}
use Rattle.rule_lookup.specs.declared.found.Found.{Found}
use Rattle.rule_lookup.specs.declared.found.Found.TheVariants.{NoRule}
use Rattle.rate_limiter.specs.Names.{name_under, names_under}
use Rattle.rate_limiter.proofs.Counting.{names_next}
use Rattle.rate_limiter.proofs.names.names_of.Goals as goal

pub descriptors-preserved : goal.descriptors-preserved
descriptors-preserved c =
    let r = c.args.request.now in
    let ds = c.args.descriptors.now in
    let fs = c.args.rules.now in
    let i = c.descriptors.place in
    let d = c.index-descriptors-place.result in
    let f : Found = get_or fs i NoRule in
    c.in_ok-add_name.ensures
    ∙ ap (λ (l : List CounterName). l ++ name_under r d f) c.descriptors.invariant
    ∙ ap (λ (e : Descriptor). names_under r (take i ds) (take i fs) ++ name_under r e f) c.index-descriptors-place.is
    ∙ sym (names_next r ds fs d NoRule i (omega arith) c.requires)
