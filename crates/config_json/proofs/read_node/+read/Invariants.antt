use Rattle.std.proofs.Common.{◌≡◌, ◌+◌, ◌*◌, ◌++◌, length, map}
use Rattle.serde_json.specs.Data.{depth, items_depth, members_depth}
use Rattle.serde_json.specs.View.{view, items_view}
use Rattle.proto_json.specs.Held.{object_of}
use Rattle.proto_json.specs.Said.{reading_of}
use Rattle.descriptor_tree.specs.Trees.{node_view, branches_of}
use Rattle.descriptor_tree.specs.Config.{AreWellFormed}
use Rattle.config_json.specs.Trees as trees
use Rattle.config_json.proofs.Lists.{behind}
use Rattle.config_json.proofs.read_node.+read.Given as goal

abbrev pub decreases-node_of : goal.decreases-node_of
decreases-node_of l = 4 * members_depth (object_of l.fields).members + 3

abbrev pub decreases-read_node : goal.decreases-read_node
decreases-read_node l = 4 * depth (view l.value)

abbrev pub decreases-read_nodes : goal.decreases-read_nodes
decreases-read_nodes l = 4 * items_depth (items_view l.list.items.items) + 1

abbrev pub decreases-take_below : goal.decreases-take_below
decreases-take_below l = 4 * members_depth (object_of l.fields.now).members + 2

abbrev pub invariant-read_nodes-items : goal.invariant-read_nodes-items
invariant-read_nodes-items l =
    (goal.iterator-read_nodes-items).can_next l.value-iterator ×
    (goal.iterator-read_nodes-items).is_finite l.value-iterator ×
    (l.yielded ++ l.value-iterator.rest.items ≡ l.fn.list.items.items) ×
    (l.index ≡ length l.yielded) ×
    (behind (map node_view l.nodes.items) (reading_of (trees.nodes_at l.fn.list.place l.index (items_view l.value-iterator.rest.items)))
    ≡ reading_of (trees.nodes_at l.fn.list.place 0 (items_view l.fn.list.items.items))) ×
    AreWellFormed (branches_of (map node_view l.nodes.items))
