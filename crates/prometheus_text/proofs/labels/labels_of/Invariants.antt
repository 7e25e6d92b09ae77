use Rattle.std.proofs.Common.{◌≡◌, ◌++◌, drop, map, flat_map}
use Rattle.descriptor_tree.specs.Trees.{tree_view}
use Rattle.prometheus_text.specs.Walk.{tree_labels}
use Rattle.prometheus_text.proofs.labels.labels_of.Given as goal

abbrev pub invariant-trees : goal.invariant-trees
invariant-trees l = l.labels.items ++ flat_map tree_labels (map tree_view (drop l.index l.trees)) ≡ flat_map tree_labels (map tree_view l.trees)
