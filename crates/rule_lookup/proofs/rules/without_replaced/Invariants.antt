use Rattle.std.proofs.Common.{◌≡◌, map, take}
use Rattle.rule_lookup.specs.Index.{unless_replaced}
use Rattle.rule_lookup.proofs.rules.without_replaced.Given as goal

abbrev pub invariant-rules : goal.invariant-rules
invariant-rules l = l.left.items ≡ map (unless_replaced l.index l.rules) (take l.rule-index l.rules)
