use Rattle.std.proofs.Common.{◌≡◌, map, take}
use Rattle.rule_lookup.specs.Rule.{rule_of}
use Rattle.rule_lookup.proofs.rules.own_rules.Given as goal

abbrev pub invariant-descriptors : goal.invariant-descriptors
invariant-descriptors l = l.rules.items ≡ map (rule_of l.index l.domain) (take l.descriptor-index l.descriptors)
