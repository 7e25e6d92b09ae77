-- The labels of the nodes of a configuration.
use Rattle.std.specs.Prelude.{List, map}
use Rattle.descriptor_tree.specs.Trees.{DomainTree}
use Rattle.prometheus_text.specs.declared.labels.Labels.{Labels}
use Rattle.prometheus_text.specs.Paths.{RootedNode, config_rooted, path_of}

-- those of a node
abbrev pub labels_at : RootedNode → Labels
labels_at n = record { domain = n.domain; path = path_of n.above n.node }

-- Those of all nodes, each at the place of its number.
abbrev pub labels_of : List DomainTree → List Labels
labels_of trees = map labels_at (config_rooted trees)
