-- The names of nodes are as many as the nodes, and stand at their numbers.
use Rattle.std.proofs.Common.{◌≡◌, ℕ, ◌+◌, List, [], ◌∷◌, ◌++◌, length, map, codes, refl, sym, ap, ◌∙◌}
use Rattle.std.proofs.lemmas.List.{map-append, length-map}
use Rattle.rate_types.specs.Places.{child, item}
use Rattle.descriptor_tree.specs.Trees.{NodeFields, Branch, branch, Branches, no_branches, and_branch, fields_of, DomainTree}
use Rattle.descriptor_tree.specs.Nodes.{PlacedNode, branch_nodes, forest_nodes, tree_nodes, config_nodes}
use Rattle.rule_lookup.specs.declared.names.RuleNames.{RuleNames}
use Rattle.rule_lookup.specs.Rule.{size_of}
use Rattle.rule_lookup.specs.Level.{names_of, branch_names, level_names, tree_names}

abbrev names_at : PlacedNode → RuleNames
names_at s = names_of s.node

mutual
  names_branch : (place : List ℕ) (level : ℕ) (earlier : List NodeFields) (b : Branch) → map names_at (branch_nodes place level earlier b) ≡ branch_names b
  names_branch place level earlier (branch node below) = ap (λ ns. names_of node ∷ ns) (names_level (child place (codes "descriptors")) (level + 1) 0 [] below)

  pub names_level : (place : List ℕ) (level index : ℕ) (earlier : List NodeFields) (below : Branches) → map names_at (forest_nodes place level index earlier below)
      ≡ level_names below
  names_level place level index earlier no_branches = refl
  names_level place level index earlier (and_branch b more) =
      map-append names_at (branch_nodes (item place index) level earlier b) (forest_nodes place level (index + 1) (fields_of b ∷ earlier) more)
      ∙ ap (λ ns. ns ++ map names_at (forest_nodes place level (index + 1) (fields_of b ∷ earlier) more)) (names_branch (item place index) level earlier b)
      ∙ ap (λ ns. branch_names b ++ ns) (names_level place level (index + 1) (fields_of b ∷ earlier) more)

pub size_names : (b : Branch) → length (branch_names b) ≡ size_of b
size_names b = ap length (sym (names_branch [] 0 [] b)) ∙ length-map (branch_nodes [] 0 [] b) names_at

pub names_config : (trees : List DomainTree) → map names_at (config_nodes trees) ≡ tree_names trees
names_config [] = refl
names_config (t ∷ trees) = map-append names_at (tree_nodes t) (config_nodes trees)
    ∙ ap (λ ns. ns ++ map names_at (config_nodes trees)) (names_level (child [] (codes "descriptors")) 1 0 [] t.forest)
    ∙ ap (λ ns. level_names t.forest ++ ns) (names_config trees)

pub tree_size : (t : DomainTree) → length (level_names t.forest) ≡ length (tree_nodes t)
tree_size t = ap length (sym (names_level (child [] (codes "descriptors")) 1 0 [] t.forest)) ∙ length-map (tree_nodes t) names_at
