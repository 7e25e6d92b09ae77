-- What the trees of a configuration stand for.
use Rattle.std.specs.Prelude.{ℕ, Bool, List, [], ◌∷◌, Option}
use Rattle.descriptor_tree.specs.declared.policy.Policy.{Policy}
use Rattle.descriptor_tree.specs.declared.node.Node.{Node}
use Rattle.descriptor_tree.specs.declared.node.Forest.{Forest}
use Rattle.descriptor_tree.specs.declared.node.Forest.TheOpen.{Forest-F, Node-F}
use Rattle.descriptor_tree.specs.declared.node.Forest.TheFolds.{fold-Forest, fold-Node}
use Rattle.descriptor_tree.specs.declared.tree.Tree.{Tree}

-- the fields of a node, without the nodes below it
pub record NodeFields : Type 0 where
  pub key : List ℕ
  pub value : Option (List ℕ)
  pub policy : Option Policy
  pub name : Option (List ℕ)
  pub replaces : List (List ℕ)
  pub shadow : Bool

mutual
  -- a node with the nodes below it
  pub data Branch : Type 0 where
    branch : NodeFields → Branches → Branch

  -- the nodes of one level, in order
  pub data Branches : Type 0 where
    no_branches : Branches
    and_branch : Branch → Branches → Branches

-- a domain with its tree
pub record DomainTree : Type 0 where
  pub domain : List ℕ
  pub forest : Branches

-- the nodes of a list, as one level
abbrev pub branches_of : List Branch → Branches
branches_of [] = no_branches
branches_of (b ∷ bs) = and_branch b (branches_of bs)

-- the fields of a node with nodes below it
abbrev pub fields_of : Branch → NodeFields
fields_of (branch node below) = node

-- the nodes below it
abbrev pub below_of : Branch → Branches
below_of (branch node below) = below

-- one step of the fold that gives a forest its meaning
abbrev pub forest_step : Forest-F Branches Branch → Branches
forest_step f = branches_of f.nodes.items

-- and one that gives a node its meaning
abbrev pub node_step : Node-F Branches Branch → Branch
node_step n =
    branch (record { key = n.key; value = n.value; policy = n.policy; name = n.name; replaces = n.replaces; shadow = n.shadow }) n.below

-- what a forest stands for
abbrev pub forest_view : Forest → Branches
forest_view = fold-Forest Branches Branch forest_step node_step

-- what a node stands for
abbrev pub node_view : Node → Branch
node_view = fold-Node Branches Branch forest_step node_step

-- what a tree stands for
abbrev pub tree_view : Tree → DomainTree
tree_view t = record { domain = t.domain; forest = forest_view t.forest }
