-- The path of each node of a configuration: the keys and values of the nodes from the top down to it.
use Rattle.std.specs.Prelude.{◌≡◌, ℕ, List, [], ◌∷◌, ◌++◌, Option, None, Some, codes, map}
use Rattle.std.specs.List.{flat_map}
use Rattle.descriptor_tree.specs.Trees.{NodeFields, Branch, branch, Branches, no_branches, and_branch, DomainTree}
use Rattle.descriptor_tree.specs.Nodes.{PlacedNode, config_nodes}

-- a node where it stands: its domain, the nodes above it from the top down, and itself
pub record RootedNode : Type 0 where
  pub domain : List ℕ
  pub above : List NodeFields
  pub node : NodeFields

abbrev mutual
  -- a node, and the nodes below it
  pub branch_rooted : List ℕ → List NodeFields → Branch → List RootedNode
  branch_rooted domain above (branch node below) =
      record { domain = domain; above = above; node = node } ∷ level_rooted domain (above ++ node ∷ []) below

  -- the nodes of a level, each with those below it
  pub level_rooted : List ℕ → List NodeFields → Branches → List RootedNode
  level_rooted domain above no_branches = []
  level_rooted domain above (and_branch b more) = branch_rooted domain above b ++ level_rooted domain above more

-- the nodes of a tree
abbrev pub tree_rooted : DomainTree → List RootedNode
tree_rooted tree = level_rooted tree.domain [] tree.forest

-- The nodes of a configuration, each at the place of its number.
abbrev pub config_rooted : List DomainTree → List RootedNode
config_rooted trees = flat_map tree_rooted trees

-- They are its nodes in the order of their numbers.
abbrev pub AreInOrder : List DomainTree → Type 0
AreInOrder trees = map (λ (r : RootedNode). r.node) (config_rooted trees) ≡ map (λ (p : PlacedNode). p.node) (config_nodes trees)

-- a value behind its key, where it is there
abbrev pub value_part : Option (List ℕ) → List ℕ
value_part None = []
value_part (Some value) = codes "_" ++ value

-- a node's own part of its path
abbrev pub own_part : NodeFields → List ℕ
own_part node = node.key ++ value_part node.value

-- A node's path: the parts of the nodes above it, a dot behind each, and then its own.
abbrev pub path_of : List NodeFields → NodeFields → List ℕ
path_of above node = flat_map (λ n. own_part n ++ codes ".") above ++ own_part node
