use Rattle.std.proofs.Common.{map}
use Rattle.descriptor_tree.specs.Trees.{tree_view}
use Rattle.config_json.proofs.Files.{Read}
use Rattle.config_json.proofs.read.read_files.Given as goal

abbrev pub invariant-files : goal.invariant-files
invariant-files l = Read l.files l.index (map tree_view l.trees.items)
