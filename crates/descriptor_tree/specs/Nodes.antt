-- The nodes of a configuration in preorder: each node, then those below it, then its next sibling. A node's place in
-- this list is its number.
use Rattle.std.specs.Prelude.{ℕ, ◌+◌, List, [], ◌∷◌, ◌++◌, codes}
use Rattle.std.specs.List.{flat_map}
use Rattle.rate_types.specs.Places.{child, item}
use Rattle.descriptor_tree.specs.Trees.{NodeFields, Branch, branch, Branches, no_branches, and_branch, fields_of, DomainTree}

-- a node where it stands: its place in the file, its level from 1 on, and its siblings before it, the last one first
pub record PlacedNode : Type 0 where
  pub place : List ℕ
  pub level : ℕ
  pub earlier : List NodeFields
  pub node : NodeFields

abbrev mutual
  -- a node, and the nodes below it
  pub branch_nodes : List ℕ → ℕ → List NodeFields → Branch → List PlacedNode
  branch_nodes place level earlier (branch node below) =
      record { place = place; level = level; earlier = earlier; node = node }
      ∷ forest_nodes (child place (codes "descriptors")) (level + 1) 0 [] below

  -- the nodes of a level from an index on, each with those below it
  pub forest_nodes : List ℕ → ℕ → ℕ → List NodeFields → Branches → List PlacedNode
  forest_nodes place level index earlier no_branches = []
  forest_nodes place level index earlier (and_branch b more) =
      branch_nodes (item place index) level earlier b ++ forest_nodes place level (index + 1) (fields_of b ∷ earlier) more

-- the nodes of a tree
abbrev pub tree_nodes : DomainTree → List PlacedNode
tree_nodes tree = forest_nodes (child [] (codes "descriptors")) 1 0 [] tree.forest

-- the nodes of a configuration
abbrev pub config_nodes : List DomainTree → List PlacedNode
config_nodes trees = flat_map tree_nodes trees
