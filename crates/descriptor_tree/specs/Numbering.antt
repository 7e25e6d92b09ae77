-- Inside: the numbers of nodes, as the check of a level hands them on.
use Rattle.std.specs.Prelude.{ℕ, ◌+◌, List, length, map, Result}
use Rattle.rate_types.specs.Reading.{first_or}
use Rattle.rate_types.specs.declared.refused.At.{At}
use Rattle.descriptor_tree.specs.Nodes.{PlacedNode}
use Rattle.descriptor_tree.specs.Faults.{in_file, nodes_faults}

-- the number of the node after these nodes of a file, the first of them of this number, or their first fault
abbrev pub next_number : ℕ → ℕ → List PlacedNode → Result ℕ At
next_number file number nodes = first_or (map (in_file file) (nodes_faults number nodes)) (number + length nodes)
