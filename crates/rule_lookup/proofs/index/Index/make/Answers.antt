use Rattle.std.proofs.Common.{map, length, ◌≤◌, List, sym, subst}
use Rattle.rate_types.specs.declared.limits.TheConstants.{MOST_NODES}
use Rattle.descriptor_tree.specs.Trees.{DomainTree, tree_view}
use Rattle.descriptor_tree.specs.Nodes.{config_nodes}
use Rattle.rule_lookup.proofs.Looking.{names_few}
use Rattle.rule_lookup.proofs.index.Index.make.Goals as goal

pub of-requires : goal.of-requires
of-requires c = names_few (map tree_view c.trees.result.now)
    (subst (λ (ts : List DomainTree). length (config_nodes ts) ≤ MOST_NODES) (sym c.trees.ensures.trees) c.trees.ensures.lawful.nodes_few)
