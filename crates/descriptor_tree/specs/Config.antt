-- What a lawful configuration is.
use Rattle.std.specs.Prelude.{◌≡◌, ◌≢◌, ◌≤◌, List, [], length, Some, None, ⊤}
use Rattle.std.specs.List.{All, AllPairs}
use Rattle.rate_types.specs.declared.limits.TheConstants.{DEEPEST_LEVEL, MOST_NODES, MOST_REPLACED}
use Rattle.descriptor_tree.specs.Trees.{NodeFields, Branch, branch, Branches, no_branches, and_branch, DomainTree}
use Rattle.descriptor_tree.specs.Nodes.{PlacedNode, config_nodes}

-- What a node has to be in itself: nothing that is there is empty; the rules that it replaces are not too many, and not
-- itself; without a rule it has no name and replaces none.
pub record IsWellFormed (node : NodeFields) : Type 0 where
  pub value_not_empty : node.value ≢ Some []
  pub name_not_empty : node.name ≢ Some []
  pub replaced_not_empty : All (λ r. r ≢ []) node.replaces
  pub replaces_few : length node.replaces ≤ MOST_REPLACED
  pub replaces_others : All (λ r. node.name ≢ Some r) node.replaces
  pub named_by_rule : node.policy ≡ None → (node.name ≡ None) × (node.replaces ≡ [])

abbrev mutual
  -- a node that is well-formed, and so is each node below it
  pub IsWellFormedBranch : Branch → Type 0
  IsWellFormedBranch (branch node below) = IsWellFormed node × AreWellFormed below

  -- nodes of one level that are well-formed, and so is each node below them
  pub AreWellFormed : Branches → Type 0
  AreWellFormed no_branches = ⊤
  AreWellFormed (and_branch b more) = IsWellFormedBranch b × AreWellFormed more

-- what it has to be where it stands: its key isn't empty, no earlier sibling has its key and its value, and its level
-- isn't below the deepest
pub record IsLawfulNode (s : PlacedNode) : Type 0 where
  pub well_formed : IsWellFormed s.node
  pub key_not_empty : s.node.key ≢ []
  pub siblings_differ : All (λ e. e.key ≡ s.node.key → e.value ≢ s.node.value) s.earlier
  pub level_bound : s.level ≤ DEEPEST_LEVEL

-- A lawful configuration: domains aren't empty and differ, each node is lawful, and the nodes are not too many.
pub record IsLawfulConfig (trees : List DomainTree) : Type 0 where
  pub domains_not_empty : All (λ t. t.domain ≢ []) trees
  pub domains_differ : AllPairs (λ t u. t.domain ≢ u.domain) trees
  pub nodes_lawful : All IsLawfulNode (config_nodes trees)
  pub nodes_few : length (config_nodes trees) ≤ MOST_NODES
