use Rattle.std.proofs.Common.{◌≡◌, ◌+◌, ◌*◌, map, take}
use Rattle.serde_json.specs.View.{items_view}
use Rattle.descriptor_tree.specs.Trees.{branches_of, node_view, forest_view}
use Rattle.config_json.specs.Bounds.{AreBounded}
use Rattle.config_json.specs.Printed.{branches_json}
use Rattle.config_json.proofs.Plain.{weight, weights}
use Rattle.config_json.proofs.print_tree.+print.Given as goal

abbrev pub decreases-print_node : goal.decreases-print_node
decreases-print_node l = 2 * weight (node_view l.node.now)

abbrev pub decreases-print_forest : goal.decreases-print_forest
decreases-print_forest l = 2 * weights (forest_view l.forest.now) + 1

abbrev pub invariant-print_forest-nodes : goal.invariant-print_forest-nodes
invariant-print_forest-nodes l =
    (items_view l.items.items ≡ branches_json (branches_of (map node_view (take l.index l.nodes)))) ×
    AreBounded (branches_of (map node_view (take l.index l.nodes)))
