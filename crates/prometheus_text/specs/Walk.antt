-- Inside: the labels of nodes, as they are made from the top down with the text that stands before each path.
use Rattle.std.specs.Prelude.{ℕ, List, [], ◌∷◌, ◌++◌, codes}
use Rattle.descriptor_tree.specs.Trees.{Branch, branch, Branches, no_branches, and_branch, DomainTree}
use Rattle.prometheus_text.specs.declared.labels.Labels.{Labels}
use Rattle.prometheus_text.specs.Paths.{own_part}

abbrev mutual
  -- those of a node and of the nodes below it
  pub branch_labels : List ℕ → List ℕ → Branch → List Labels
  branch_labels domain before (branch node below) =
      record { domain = domain; path = before ++ own_part node }
      ∷ level_labels domain ((before ++ own_part node) ++ codes ".") below

  -- those of a level
  pub level_labels : List ℕ → List ℕ → Branches → List Labels
  level_labels domain before no_branches = []
  level_labels domain before (and_branch b more) = branch_labels domain before b ++ level_labels domain before more

-- those of a tree
abbrev pub tree_labels : DomainTree → List Labels
tree_labels tree = level_labels tree.domain [] tree.forest
