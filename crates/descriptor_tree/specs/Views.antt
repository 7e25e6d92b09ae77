-- What a built configuration stands for.
use Rattle.std.specs.Prelude.{List, map}
use Rattle.descriptor_tree.specs.declared.config.Config.{Config}
use Rattle.descriptor_tree.specs.Trees.{DomainTree, tree_view}

-- its trees, in order
unfoldable pub config_view : Config → List DomainTree
config_view config = map tree_view config.trees.items
