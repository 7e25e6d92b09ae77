use Rattle.std.proofs.Common.{◌+◌, ◌*◌, length}
use Rattle.descriptor_tree.specs.Trees.{node_view, forest_view}
use Rattle.rule_lookup.specs.Level.{branch_names, level_names}
use Rattle.rule_lookup.proofs.Filling.{Filled}
use Rattle.rule_lookup.proofs.levels.Levels.+add.Given as goal

abbrev pub decreases-add_level : goal.decreases-add_level
decreases-add_level l = 2 * length (level_names (forest_view l.forest.now)) + 1

abbrev pub decreases-add_node : goal.decreases-add_node
decreases-add_node l = 2 * length (branch_names (node_view l.node.now))

abbrev pub invariant-add_level-nodes : goal.invariant-add_level-nodes
invariant-add_level-nodes l = Filled l.nodes l.index l.fn.self.names.items l.self.names.items l.fn.self.levels.items l.self.levels.items l.level
