use Rattle.std.proofs.Common.{◌≤◌, map, arith, sym, ap, subst, ◌∙◌}
use Rattle.descriptor_tree.specs.declared.node.Node.{Node}
use Rattle.descriptor_tree.specs.Trees.{Branches, branches_of, node_view, forest_view}
use Rattle.serde_json.specs.View.{items_view}
use Rattle.config_json.proofs.Plain.{weight, weights, weight_at}
use Rattle.config_json.proofs.Printing.{nodes_push, bounded_push}
use Rattle.config_json.proofs.print_tree.+print.Goals as goal

pub print_forest-print_node-requires : goal.print_forest-print_node-requires
print_forest-print_node-requires t c =
    let at : weight (node_view c.index-nodes-index.result) ≤ weights (branches_of (map node_view c.items-nodes.result.now)) =
    subst (λ (n : Node). weight (node_view n) ≤ weights (branches_of (map node_view c.items-nodes.result.now))) (sym c.index-nodes-index.is)
    (weight_at c.items-nodes.result.now c.nodes.index c.index-nodes-index.result c.nodes-test.true) in
    let less : weight (node_view c.index-nodes-index.result) ≤ weights (forest_view c.args.forest.now) =
    subst (λ (f : Branches). weight (node_view c.index-nodes-index.result) ≤ weights f) (sym c.items-nodes.ensures) at in
    (omega arith, tt)

pub print_forest-nodes-preserved : goal.print_forest-nodes-preserved
print_forest-nodes-preserved t c = (
  ap items_view c.in_ok-push.ensures.items
      ∙ nodes_push c.nodes.items.items c.in_ok-item.item c.items-nodes.result.now c.nodes.index c.index-nodes-index.result
      c.nodes.invariant.0 c.in_ok-item.ensures.value c.nodes-test.true c.index-nodes-index.is,
  bounded_push c.items-nodes.result.now c.nodes.index c.index-nodes-index.result c.nodes.invariant.1 c.in_ok-item.ensures.bounded c.nodes-test.true c.index-nodes-index.is,
)
