use Rattle.std.proofs.Common.{ap, take, ◌∙◌}
use Rattle.serde_json.specs.View.{items_of}
use Rattle.serde_json.specs.Written.{has_float, items_have_float}
use Rattle.rule_lookup.specs.Rule.{rule_of}
use Rattle.cli_lookup.specs.Lookup as texts
use Rattle.cli_lookup.proofs.Founds.{items_whole, found_whole}
use Rattle.cli_lookup.proofs.found_json.founds_value.Goals as goal

pub returns-clause-whole : goal.returns-clause-whole
returns-clause-whole c = ap has_float c.array_value-value.ensures ∙ ap (λ ds. items_have_float (items_of ds)) c.descriptors.invariant
    ∙ items_whole (λ d. texts.found_data (rule_of c.args.index.now c.args.request.now.domain d)) (λ d. found_whole (rule_of c.args.index.now c.args.request.now.domain d))
    (take c.descriptors.descriptor-index c.descriptors-descriptors.result.now)
