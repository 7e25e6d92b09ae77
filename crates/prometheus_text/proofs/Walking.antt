-- The labels as they are made are those of the nodes with the nodes above them.
use Rattle.std.proofs.Common.{◌≡◌, ◌<◌, ◌≤◌, ℕ, zero, suc, ◌+◌, drop, get_or, add-one, arith, List, [], ◌∷◌, ◌++◌, map, codes, flat_map, length, refl, sym, ap, ◌∙◌, append_assoc, append-nil}
use Rattle.std.proofs.Math.Seq.{drop-cons}
use Rattle.std.proofs.lemmas.List.{map-append, length-map, drop_all}
use Rattle.std.proofs.lemmas.List.Concat.{flat_map-append}
use Rattle.rate_types.specs.Places.{child, item}
use Rattle.descriptor_tree.specs.declared.node.Node.{Node}
use Rattle.descriptor_tree.specs.declared.tree.Tree.{Tree}
use Rattle.descriptor_tree.specs.Trees.{NodeFields, Branch, branch, Branches, no_branches, and_branch, branches_of, fields_of, below_of, node_view, tree_view, DomainTree}
use Rattle.descriptor_tree.specs.Nodes.{PlacedNode, branch_nodes, forest_nodes, tree_nodes, config_nodes}
use Rattle.prometheus_text.specs.declared.labels.Labels.{Labels}
use Rattle.prometheus_text.specs.Paths.{RootedNode, branch_rooted, level_rooted, tree_rooted, config_rooted, own_part, AreInOrder}
use Rattle.prometheus_text.specs.Labels.{labels_at, labels_of}
use Rattle.prometheus_text.specs.Walk.{branch_labels, level_labels, tree_labels}

-- what stands before the paths of the nodes below these
abbrev before_of : List NodeFields → List ℕ
before_of above = flat_map (λ n. own_part n ++ codes ".") above

before_more : (above : List NodeFields) (node : NodeFields) → (before_of above ++ own_part node) ++ codes "." ≡ before_of (above ++ node ∷ [])
before_more above node =
    append_assoc (before_of above) (own_part node) (codes ".")
    ∙ ap (λ l. before_of above ++ l) (sym (append-nil (own_part node ++ codes ".")))
    ∙ sym (flat_map-append (λ n. own_part n ++ codes ".") above (node ∷ []))

mutual
  branch_made : (domain : List ℕ) (above : List NodeFields) (b : Branch) → branch_labels domain (before_of above) b ≡ map labels_at (branch_rooted domain above b)
  branch_made domain above (branch node below) =
      ap (λ (ls : List Labels). record { domain = domain; path = before_of above ++ own_part node } ∷ ls)
      (ap (λ before. level_labels domain before below) (before_more above node) ∙ level_made domain (above ++ node ∷ []) below)

  level_made : (domain : List ℕ) (above : List NodeFields) (below : Branches) → level_labels domain (before_of above) below ≡ map labels_at (level_rooted domain above below)
  level_made domain above no_branches = refl
  level_made domain above (and_branch b more) =
      ap (λ (ls : List Labels). ls ++ level_labels domain (before_of above) more) (branch_made domain above b)
      ∙ ap (λ (ls : List Labels). map labels_at (branch_rooted domain above b) ++ ls) (level_made domain above more)
      ∙ sym (map-append labels_at (branch_rooted domain above b) (level_rooted domain above more))

-- the labels of a configuration
pub config_made : (trees : List DomainTree) → flat_map tree_labels trees ≡ labels_of trees
config_made [] = refl
config_made (t ∷ trees) =
    ap (λ (ls : List Labels). ls ++ flat_map tree_labels trees) (level_made t.domain [] t.forest)
    ∙ ap (λ (ls : List Labels). map labels_at (tree_rooted t) ++ ls) (config_made trees)
    ∙ sym (map-append labels_at (tree_rooted t) (config_rooted trees))

-- ---- the nodes are those of the configuration, in the order of their numbers

mutual
  branch_same : (domain : List ℕ) (above : List NodeFields) (place : List ℕ) (level : ℕ) (earlier : List NodeFields) (b : Branch)
      → map (λ (r : RootedNode). r.node) (branch_rooted domain above b) ≡ map (λ (s : PlacedNode). s.node) (branch_nodes place level earlier b)
  branch_same domain above place level earlier (branch node below) =
      ap (λ (ns : List NodeFields). node ∷ ns) (level_same domain (above ++ node ∷ []) (child place (codes "descriptors")) (level + 1) 0 [] below)

  level_same : (domain : List ℕ) (above : List NodeFields) (place : List ℕ) (level index : ℕ) (earlier : List NodeFields) (below : Branches)
      → map (λ (r : RootedNode). r.node) (level_rooted domain above below) ≡ map (λ (s : PlacedNode). s.node) (forest_nodes place level index earlier below)
  level_same domain above place level index earlier no_branches = refl
  level_same domain above place level index earlier (and_branch b more) =
      map-append (λ (r : RootedNode). r.node) (branch_rooted domain above b) (level_rooted domain above more)
      ∙ ap (λ (ns : List NodeFields). ns ++ map (λ (r : RootedNode). r.node) (level_rooted domain above more)) (branch_same domain above (item place index) level earlier b)
      ∙ ap (λ (ns : List NodeFields). map (λ (s : PlacedNode). s.node) (branch_nodes (item place index) level earlier b) ++ ns)
      (level_same domain above place level (index + 1) (fields_of b ∷ earlier) more)
      ∙ sym (map-append (λ (s : PlacedNode). s.node) (branch_nodes (item place index) level earlier b) (forest_nodes place level (index + 1) (fields_of b ∷ earlier) more))

pub config_same : (trees : List DomainTree) → AreInOrder trees
config_same [] = refl
config_same (t ∷ trees) =
    map-append (λ (r : RootedNode). r.node) (tree_rooted t) (config_rooted trees)
    ∙ ap (λ (ns : List NodeFields). ns ++ map (λ (r : RootedNode). r.node) (config_rooted trees)) (level_same t.domain [] (child [] (codes "descriptors")) 1 0 [] t.forest)
    ∙ ap (λ (ns : List NodeFields). map (λ (s : PlacedNode). s.node) (tree_nodes t) ++ ns) (config_same trees)
    ∙ sym (map-append (λ (s : PlacedNode). s.node) (tree_nodes t) (config_nodes trees))

-- ---- how many nodes there are

abbrev mutual
  pub branch_size : Branch → ℕ
  branch_size (branch node below) = 1 + level_size below

  pub level_size : Branches → ℕ
  level_size no_branches = 0
  level_size (and_branch b more) = branch_size b + level_size more

-- the nodes of a list, as a level
abbrev pub level_of : List Node → Branches
level_of nodes = branches_of (map node_view nodes)

-- a node is no larger than its level
pub node_size : (nodes : List Node) (i : ℕ) (node : Node) → i < length nodes → node ≡ get_or nodes i node
    → branch_size (node_view node) ≤ level_size (level_of nodes)
node_size [] i node within at = absurd (omega arith)
node_size (n ∷ ns) zero node within at = omega (arith, ap (λ (m : Node). branch_size (node_view m)) at)
node_size (n ∷ ns) (suc i) node within at = omega (arith, node_size ns i node (omega arith) at)

-- and larger than the nodes below it
pub below_size : (b : Branch) → level_size (below_of b) < branch_size b
below_size (branch node below) = omega arith

-- ---- one node more of a level, and one tree more

rest_of : {X : Type 0} (xs : List X) (i : ℕ) (x : X) → i < length xs → x ≡ get_or xs i x → drop i xs ≡ x ∷ drop (i + 1) xs
rest_of xs i x within at = rw (add-one i) (drop-cons xs i x within ∙ ap (λ y. y ∷ drop (suc i) xs) (sym at))

pub node_done : (domain before : List ℕ) (nodes : List Node) (i : ℕ) (node : Node) (now after all : List Labels)
    → i < length nodes → node ≡ get_or nodes i node
    → now ++ level_labels domain before (level_of (drop i nodes)) ≡ all
    → after ≡ now ++ branch_labels domain before (node_view node)
    → after ++ level_labels domain before (level_of (drop (i + 1) nodes)) ≡ all
node_done domain before nodes i node now after all within at so_far grew =
    ap (λ (ls : List Labels). ls ++ level_labels domain before (level_of (drop (i + 1) nodes))) grew
    ∙ append_assoc now (branch_labels domain before (node_view node)) (level_labels domain before (level_of (drop (i + 1) nodes)))
    ∙ ap (λ (ns : List Node). now ++ level_labels domain before (level_of ns)) (sym (rest_of nodes i node within at))
    ∙ so_far

pub level_done : (domain before : List ℕ) (nodes : List Node) (i : ℕ) (now all : List Labels) → length nodes ≤ i
    → now ++ level_labels domain before (level_of (drop i nodes)) ≡ all → now ≡ all
level_done domain before nodes i now all end so_far =
    sym (append-nil now) ∙ ap (λ (ns : List Node). now ++ level_labels domain before (level_of ns)) (sym (drop_all i nodes end)) ∙ so_far

pub branch_done : (domain before path inner : List ℕ) (b : Branch) (old after : List Labels) → path ≡ before ++ own_part (fields_of b) → inner ≡ path ++ codes "."
    → after ≡ (old ++ record { domain = domain; path = path } ∷ []) ++ level_labels domain inner (below_of b)
    → after ≡ old ++ branch_labels domain before b
branch_done domain before path inner (branch node below) old after path_is inner_is is =
    is ∙ append_assoc old (record { domain = domain; path = path } ∷ []) (level_labels domain inner below)
    ∙ ap (λ (l : List ℕ). old ++ record { domain = domain; path = path } ∷ level_labels domain l below) inner_is
    ∙ ap (λ (p : List ℕ). old ++ record { domain = domain; path = p } ∷ level_labels domain (p ++ codes ".") below) path_is

pub tree_done : (trees : List Tree) (i : ℕ) (tree : Tree) (now after all : List Labels) → i < length trees → tree ≡ get_or trees i tree
    → now ++ flat_map tree_labels (map tree_view (drop i trees)) ≡ all → after ≡ now ++ tree_labels (tree_view tree)
    → after ++ flat_map tree_labels (map tree_view (drop (i + 1) trees)) ≡ all
tree_done trees i tree now after all within at so_far grew =
    ap (λ (ls : List Labels). ls ++ flat_map tree_labels (map tree_view (drop (i + 1) trees))) grew
    ∙ append_assoc now (tree_labels (tree_view tree)) (flat_map tree_labels (map tree_view (drop (i + 1) trees)))
    ∙ ap (λ (ts : List Tree). now ++ flat_map tree_labels (map tree_view ts)) (sym (rest_of trees i tree within at))
    ∙ so_far

pub trees_done : (trees : List Tree) (i : ℕ) (view : List DomainTree) (now : List Labels) → length trees ≤ i → map tree_view trees ≡ view
    → now ++ flat_map tree_labels (map tree_view (drop i trees)) ≡ flat_map tree_labels (map tree_view trees) → now ≡ labels_of view
trees_done trees i view now end is so_far =
    sym (append-nil now) ∙ ap (λ (ts : List Tree). now ++ flat_map tree_labels (map tree_view ts)) (sym (drop_all i trees end)) ∙ so_far
    ∙ ap (flat_map tree_labels) is ∙ config_made view

-- as many as the nodes
pub labels_count : (trees : List DomainTree) → length (labels_of trees) ≡ length (config_nodes trees)
labels_count trees =
    length-map (config_rooted trees) labels_at
    ∙ sym (length-map (config_rooted trees) (λ (r : RootedNode). r.node)) ∙ ap length (config_same trees)
    ∙ length-map (config_nodes trees) (λ (s : PlacedNode). s.node)
