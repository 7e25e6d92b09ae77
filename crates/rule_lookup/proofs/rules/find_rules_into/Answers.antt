use Rattle.std.proofs.Common.{rules, ◌≡◌, ◌∙◌, List, false, map, sym, ap}
use Rattle.std.specs.List.{list_any}
use Rattle.rule_lookup.specs.declared.found.Found.{Found}
use Rattle.rule_lookup.specs.Rule.{rule_of}
use Rattle.rule_lookup.specs.Replaces.{names_replaced, node_found}
use Rattle.rule_lookup.specs.Index.{has_some, unless_replaced}
use Rattle.rule_lookup.proofs.Replacing.{all_left, among_rules}
use Rattle.rule_lookup.proofs.rules.find_rules_into.Goals as goal

pub returns-else-any_replaces : goal.returns-else-any_replaces
returns-else-any_replaces c =
    let no : c.any_replaces.result ≡ false = search rules in
    let own : c.as_slice.result.now ≡ map (rule_of c.args.index.now c.args.domain.now) c.args.descriptors.now = c.as_slice.ensures.value ∙ c.own_rules.ensures in
    let none : list_any (λ r. has_some (names_replaced (node_found c.args.index.now r))) (map (rule_of c.args.index.now c.args.domain.now) c.args.descriptors.now) ≡ false =
    ap (list_any (λ r. has_some (names_replaced (node_found c.args.index.now r)))) (sym own) ∙ sym c.any_replaces.ensures ∙ no in
    c.own_rules.ensures ∙ all_left c.args.index.now c.args.domain.now c.args.descriptors.now c.args.descriptors.now none

pub returns-then-any_replaces : goal.returns-then-any_replaces
returns-then-any_replaces c =
    let own : c.as_slice-then-any_replaces.result.now ≡ map (rule_of c.args.index.now c.args.domain.now) c.args.descriptors.now = c.as_slice-then-any_replaces.ensures.value ∙ c.own_rules.ensures in
    c.without_replaced.ensures ∙ ap (λ (fs : List Found). map (unless_replaced c.args.index.now fs) fs) own
    ∙ among_rules c.args.index.now c.args.domain.now c.args.descriptors.now c.args.descriptors.now
