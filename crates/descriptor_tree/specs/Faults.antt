-- The faults of a configuration's trees, in order: tree by tree, first those of its domain, then its nodes in preorder.
use Rattle.std.specs.Prelude.{ℕ, ◌+◌, ◌&&◌, List, [], ◌∷◌, ◌++◌, length, map, Bool, true, false, nat_lt, nat_le, if◌then◌else◌}
use Rattle.std.specs.List.{list_any}
use Rattle.std.specs.Option.{option_eq}
use Rattle.std.specs.Str.{bytes_eq}
use Rattle.rate_types.specs.declared.limits.TheConstants.{DEEPEST_LEVEL, MOST_NODES}
use Rattle.rate_types.specs.declared.refusals.TheConstants.{EMPTY_DOMAIN, TWO_DOMAINS, EMPTY_KEY, TWO_NODES, TOO_DEEP, TOO_MANY_NODES}
use Rattle.rate_types.specs.declared.refused.Refused.{Refused}
use Rattle.rate_types.specs.declared.refused.At.{At}
use Rattle.descriptor_tree.specs.Trees.{NodeFields, DomainTree}
use Rattle.descriptor_tree.specs.Nodes.{PlacedNode, tree_nodes}

-- the text has no byte
abbrev pub is_empty : List ℕ → Bool
is_empty [] = true
is_empty (x ∷ xs) = false

-- two nodes of one key, and of one value or likewise none
abbrev pub is_twin : NodeFields → NodeFields → Bool
is_twin one other = bytes_eq one.key other.key && option_eq bytes_eq one.value other.value

-- this number where the test holds
abbrev pub where_true : Bool → ℕ → List ℕ
where_true test number = if test then number ∷ [] else []

-- The numbers of a node's faults: its key is empty; an earlier sibling is its twin; it stands below the deepest level; or
-- as many nodes of all trees come before it as there may be.
abbrev pub node_numbers : Bool → Bool → ℕ → ℕ → List ℕ
node_numbers keyless twin level number = where_true keyless EMPTY_KEY ++ where_true twin TWO_NODES
    ++ where_true (nat_lt DEEPEST_LEVEL level) TOO_DEEP ++ where_true (nat_le MOST_NODES number) TOO_MANY_NODES

-- the faults of a node of this number, at its place
abbrev pub node_faults : ℕ → PlacedNode → List Refused
node_faults number s = map (λ n. record { at = s.place; number = n })
    (node_numbers (is_empty s.node.key) (list_any (λ e. is_twin e s.node) s.earlier) s.level number)

-- the faults of nodes one after the other, the first of this number
abbrev pub nodes_faults : ℕ → List PlacedNode → List Refused
nodes_faults number [] = []
nodes_faults number (s ∷ more) = node_faults number s ++ nodes_faults (number + 1) more

-- The numbers of a tree's own faults: its domain is empty, or an earlier tree has it.
abbrev pub domain_numbers : Bool → Bool → List ℕ
domain_numbers nameless twin = where_true nameless EMPTY_DOMAIN ++ where_true twin TWO_DOMAINS

-- the faults of a tree's domain, at the empty place
abbrev pub domain_faults : List (List ℕ) → DomainTree → List Refused
domain_faults earlier tree = map (λ n. record { at = []; number = n })
    (domain_numbers (is_empty tree.domain) (list_any (λ d. bytes_eq d tree.domain) earlier))

-- a fault with its file
abbrev pub in_file : ℕ → Refused → At
in_file file refused = record { file = file; refused = refused }

-- the faults of trees one after the other: `file` is the first one's index, `earlier` are the domains before it, `number`
-- that of its first node
abbrev pub trees_faults : ℕ → List (List ℕ) → ℕ → List DomainTree → List At
trees_faults file earlier number [] = []
trees_faults file earlier number (tree ∷ more) =
    map (in_file file) (domain_faults earlier tree ++ nodes_faults number (tree_nodes tree))
    ++ trees_faults (file + 1) (tree.domain ∷ earlier) (number + length (tree_nodes tree)) more

-- all faults of a configuration's trees
unfoldable pub config_faults : List DomainTree → List At
config_faults trees = trees_faults 0 [] 0 trees
