-- Which rule replaces which.
use Rattle.std.specs.Prelude.{ℕ, List, [], Bool, false, Option, None, Some, option_map, if◌then◌else◌}
use Rattle.std.specs.List.{list_any, slice_get}
use Rattle.rate_types.specs.Counters.{same_text}
use Rattle.rate_types.specs.declared.request.Descriptor.{Descriptor}
use Rattle.descriptor_tree.specs.Trees.{NodeFields, DomainTree}
use Rattle.descriptor_tree.specs.Nodes.{config_nodes}
use Rattle.rule_lookup.specs.declared.found.Found.{Found}
use Rattle.rule_lookup.specs.declared.found.Found.TheVariants.{NoRule, Unlimited, Limited}
use Rattle.rule_lookup.specs.Rule.{rule_of}

-- ---- two rules by their numbers

-- the node of a number
abbrev pub node_at : List DomainTree → ℕ → Option NodeFields
node_at trees number = option_map (λ s. s.node) (slice_get (config_nodes trees) number)

-- the name of a node's rule
abbrev pub rule_name : Option NodeFields → Option (List ℕ)
rule_name None = None
rule_name (Some node) = node.name

-- the names of the rules that it replaces
abbrev pub names_replaced : Option NodeFields → List (List ℕ)
names_replaced None = []
names_replaced (Some node) = node.replaces

-- the name is there, and it is among these
abbrev pub is_named_in : List (List ℕ) → Option (List ℕ) → Bool
is_named_in names None = false
is_named_in names (Some name) = list_any (λ r. same_text r name) names

-- The rule with the first number replaces the one with the second: the second one's name is among those that the first
-- replaces.
abbrev pub replaces : List DomainTree → ℕ → ℕ → Bool
replaces trees one other = is_named_in (names_replaced (node_at trees one)) (rule_name (node_at trees other))

-- ---- the rules of a request's descriptors

-- the node of the rule that was found, where it has one: a descriptor's own limit has none
abbrev pub node_found : List DomainTree → Found → Option NodeFields
node_found trees NoRule = None
node_found trees (Unlimited rule) = node_at trees rule.0
node_found trees (Limited limit unit shadow None) = None
node_found trees (Limited limit unit shadow (Some rule)) = node_at trees rule.0

-- the first rule that was found replaces the second
abbrev pub found_replaces : List DomainTree → Found → Found → Bool
found_replaces trees one other = is_named_in (names_replaced (node_found trees one)) (rule_name (node_found trees other))

-- A descriptor is replaced where the rule of another one of the request replaces its own, whether or not the other is
-- replaced itself. In a lawful configuration no rule replaces itself, so that a descriptor isn't replaced by itself.
abbrev pub is_replaced : List DomainTree → List ℕ → List Descriptor → Descriptor → Bool
is_replaced trees domain descriptors d = list_any (λ e. found_replaces trees (rule_of trees domain e) (rule_of trees domain d)) descriptors

-- What a descriptor among those of a request finds: its rule, and none where it is replaced.
abbrev pub found_among : List DomainTree → List ℕ → List Descriptor → Descriptor → Found
found_among trees domain descriptors d = if is_replaced trees domain descriptors d then NoRule else rule_of trees domain d
