use Rattle.std.proofs.Common.{◌<◌, ◌≤◌, ◌++◌, sym, ap, ◌∙◌, subst, arith}
use Rattle.descriptor_tree.specs.Trees.{Branches, node_view, forest_view}
use Rattle.prometheus_text.specs.Walk.{level_labels}
use Rattle.prometheus_text.proofs.Walking.{branch_size, level_size, level_of, node_size, below_size, node_done, level_done}
use Rattle.prometheus_text.proofs.labels.+add.Goals as goal

pub add_level-add_node-requires : goal.add_level-add_node-requires
add_level-add_node-requires t c =
    let at : branch_size (node_view c.index-nodes-index.result) ≤ level_size (level_of c.items-nodes.result.now) =
    node_size c.items-nodes.result.now c.nodes.index c.index-nodes-index.result c.nodes-test.true c.index-nodes-index.is in
    let less : branch_size (node_view c.index-nodes-index.result) ≤ level_size (forest_view c.args.forest.now) =
    subst (λ (f : Branches). branch_size (node_view c.index-nodes-index.result) ≤ level_size f) (sym c.items-nodes.ensures) at in
    (omega arith, tt)

pub add_level-nodes-preserved : goal.add_level-nodes-preserved
add_level-nodes-preserved t c =
    node_done c.args.domain.now c.args.before.now c.items-nodes.result.now c.nodes.index c.index-nodes-index.result _ _ _
    c.nodes-test.true c.index-nodes-index.is c.nodes.invariant c.in_ok-add_node.ensures

pub add_level-returns : goal.add_level-returns
add_level-returns t c =
    level_done c.args.domain.now c.args.before.now c.items-nodes.result.now c.nodes.index _ _ c.nodes-test.false c.nodes.invariant
    ∙ ap (λ (f : Branches). c.args.labels.now.items ++ level_labels c.args.domain.now c.args.before.now f) (sym c.items-nodes.ensures)

pub add_node-add_level-requires : goal.add_node-add_level-requires
add_node-add_level-requires t c =
    let less : level_size (forest_view c.below_of.result.now) < branch_size (node_view c.args.node.now) =
    subst (λ (f : Branches). level_size f < branch_size (node_view c.args.node.now)) (sym c.below_of.ensures) (below_size (node_view c.args.node.now)) in
    (omega arith, tt)
