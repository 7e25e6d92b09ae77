use Rattle.std.proofs.Common.{◌≡◌, map, take}
use Rattle.serde_json.specs.View.{view}
use Rattle.rule_lookup.specs.Rule.{rule_of}
use Rattle.cli_lookup.specs.Lookup as texts
use Rattle.cli_lookup.proofs.found_json.founds_value.Given as goal

abbrev pub invariant-descriptors : goal.invariant-descriptors
invariant-descriptors l =
    map view l.values.items ≡ map (λ d. texts.found_data (rule_of l.index l.request.domain d)) (take l.descriptor-index l.descriptors)
