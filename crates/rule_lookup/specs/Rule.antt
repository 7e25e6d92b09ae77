-- The rule of a descriptor: from the domain's forest down, one level for each entry.
use Rattle.std.specs.Prelude.{ℕ, ◌+◌, ◌-◌, ◌==◌, ◌&&◌, List, [], ◌∷◌, length, take, codes, Bool, true, false, Option, None, Some, find}
use Rattle.std.specs.List.{starts_with, ends_with}
use Rattle.std.specs.Option.{option_or, option_map_or}
use Rattle.rate_types.specs.Counters.{same_text}
use Rattle.rate_types.specs.declared.entries.Entry.{Entry}
use Rattle.rate_types.specs.declared.request.Descriptor.{Descriptor}
use Rattle.rate_types.specs.declared.request.OwnLimit.{OwnLimit}
use Rattle.descriptor_tree.specs.declared.policy.Policy.{Policy}
use Rattle.descriptor_tree.specs.declared.policy.Policy.TheVariants as policy
use Rattle.descriptor_tree.specs.Trees.{NodeFields, Branch, Branches, no_branches, and_branch, fields_of, below_of, DomainTree}
use Rattle.descriptor_tree.specs.Nodes.{branch_nodes, tree_nodes}
use Rattle.rule_lookup.specs.declared.found.Found.{Found}
use Rattle.rule_lookup.specs.declared.found.Found.TheVariants.{NoRule, Unlimited, Limited}

-- ---- nodes and their numbers

-- how many nodes a node and those below it are
abbrev pub size_of : Branch → ℕ
size_of b = length (branch_nodes [] 0 [] b)

-- a node with its number and the nodes below it, of which the first has the next number
pub record NumberedNode : Type 0 where
  pub number : ℕ
  pub node : NodeFields
  pub below : Branches

-- The nodes of a level, the first of them of this number. Numbers are given in preorder: between two siblings come the
-- nodes below the first.
abbrev pub numbered : ℕ → Branches → List NumberedNode
numbered number no_branches = []
numbered number (and_branch b more) =
    record { number = number; node = fields_of b; below = below_of b } ∷ numbered (number + size_of b) more

-- a tree, with the number of its first node
pub record NumberedTree : Type 0 where
  pub number : ℕ
  pub tree : DomainTree

-- the trees of a configuration from this number on
abbrev pub numbered_trees : ℕ → List DomainTree → List NumberedTree
numbered_trees number [] = []
numbered_trees number (tree ∷ more) = record { number = number; tree = tree } ∷ numbered_trees (number + length (tree_nodes tree)) more

-- ---- the matching node of a level

-- a value that ends in `*` is a wildcard
abbrev pub is_wildcard : List ℕ → Bool
is_wildcard value = ends_with ◌==◌ value (codes "*")

-- the text begins with what stands before the `*`
abbrev pub covers : List ℕ → List ℕ → Bool
covers wildcard text = starts_with ◌==◌ text (take (length wildcard - 1) wildcard)

-- the value is there, and it is this text
abbrev pub is_this : Option (List ℕ) → List ℕ → Bool
is_this None text = false
is_this (Some value) text = same_text value text

-- the value is there, and it is a wildcard that covers this text
abbrev pub is_wildcard_for : Option (List ℕ) → List ℕ → Bool
is_wildcard_for None text = false
is_wildcard_for (Some value) text = is_wildcard value && covers value text

-- no value is there
abbrev pub is_absent : Option (List ℕ) → Bool
is_absent None = true
is_absent (Some value) = false

-- a node with the entry's key and value
abbrev pub has_value : Entry → NodeFields → Bool
has_value entry node = same_text node.key entry.key && is_this node.value entry.value

-- a node with the entry's key and a wildcard that covers the entry's value
abbrev pub has_wildcard : Entry → NodeFields → Bool
has_wildcard entry node = same_text node.key entry.key && is_wildcard_for node.value entry.value

-- a node with the entry's key and without a value
abbrev pub has_key_alone : Entry → NodeFields → Bool
has_key_alone entry node = same_text node.key entry.key && is_absent node.value

-- The matching node of a level: the one with the key and the value, else the first in the list with the key and a wildcard
-- that covers the value, else the one with the key alone.
abbrev pub matching_node : List NumberedNode → Entry → Option NumberedNode
matching_node nodes entry =
    option_or (find (λ n. has_value entry n.node) nodes)
    (option_or (find (λ n. has_wildcard entry n.node) nodes) (find (λ n. has_key_alone entry n.node) nodes))

-- ---- the rule

-- what a node with this number, shadow and policy says
abbrev pub policy_rule : ℕ → Bool → Option Policy → Found
policy_rule number shadow None = NoRule
policy_rule number shadow (Some policy.Unlimited) = Unlimited (record { 0 = number })
policy_rule number shadow (Some (policy.Limited limit unit)) = Limited limit unit shadow (Some (record { 0 = number }))

-- what a node says
abbrev pub rule_at : NumberedNode → Found
rule_at n = policy_rule n.number n.node.shadow n.node.policy

-- Through these entries, from a node that says `found` and below which stand these nodes, the first of this number: what
-- the last entry's node says, and no rule where an entry has no matching node.
abbrev pub rule_from : List Entry → Found → ℕ → Branches → Found
rule_from [] found number below = found
rule_from (entry ∷ more) found number below =
    option_map_or (λ n. rule_from more (rule_at n) (n.number + 1) n.below) (matching_node (numbered number below) entry) NoRule

-- a limit of the descriptor's own replaces the look-up, and is never shadow
abbrev pub own_or : Option OwnLimit → Found → Found
own_or None found = found
own_or (Some own) found = Limited own.limit own.unit false None

-- The rule of a descriptor in a domain; none where the configuration lacks the domain.
abbrev pub rule_of : List DomainTree → List ℕ → Descriptor → Found
rule_of trees domain descriptor =
    option_map_or (λ t. own_or descriptor.own (rule_from descriptor.entries NoRule t.number t.tree.forest))
    (find (λ t. same_text t.tree.domain domain) (numbered_trees 0 trees)) NoRule
