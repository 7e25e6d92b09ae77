use Rattle.std.proofs.Common.{◌≡◌, ◌+◌, ◌*◌, ◌++◌, drop}
use Rattle.descriptor_tree.specs.Trees.{node_view, forest_view}
use Rattle.prometheus_text.specs.Walk.{level_labels}
use Rattle.prometheus_text.proofs.Walking.{branch_size, level_size, level_of}
use Rattle.prometheus_text.proofs.labels.+add.Given as goal

abbrev pub decreases-add_level : goal.decreases-add_level
decreases-add_level l = 2 * level_size (forest_view l.forest.now) + 1

abbrev pub decreases-add_node : goal.decreases-add_node
decreases-add_node l = 2 * branch_size (node_view l.node.now)

abbrev pub invariant-add_level-nodes : goal.invariant-add_level-nodes
invariant-add_level-nodes l = l.labels.items ++ level_labels l.domain l.before (level_of (drop l.index l.nodes))
    ≡ l.fn.labels.items ++ level_labels l.domain l.before (level_of l.nodes)
