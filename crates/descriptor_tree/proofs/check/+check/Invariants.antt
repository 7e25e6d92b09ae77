use Rattle.std.proofs.Common.{◌+◌, ◌-◌, ◌*◌}
use Rattle.rate_types.specs.declared.limits.TheConstants.{DEEPEST_LEVEL}
use Rattle.descriptor_tree.proofs.Walks.{Walked}
use Rattle.descriptor_tree.proofs.check.+check.Given as goal

abbrev pub decreases-check_forest : goal.decreases-check_forest
decreases-check_forest l = 3 * (DEEPEST_LEVEL + 1 - l.level) + 2

abbrev pub decreases-check_node : goal.decreases-check_node
decreases-check_node l = 3 * (DEEPEST_LEVEL + 1 - l.level) + 1

abbrev pub decreases-check_below : goal.decreases-check_below
decreases-check_below l = 3 * (DEEPEST_LEVEL + 1 - l.level)

abbrev pub invariant-check_forest-nodes : goal.invariant-check_forest-nodes
invariant-check_forest-nodes l = Walked l.file l.place l.level l.fn.number l.nodes l.index l.number l.names
