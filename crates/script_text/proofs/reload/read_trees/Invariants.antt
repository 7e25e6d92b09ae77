use Rattle.std.proofs.Common.{◌≡◌, ◌++◌, length, map}
use Rattle.std.specs.List.{All}
use Rattle.descriptor_tree.specs.Trees.{tree_view}
use Rattle.descriptor_tree.specs.Config.{AreWellFormed}
use Rattle.script_text.proofs.Reloads.{TreesSoFar}
use Rattle.script_text.proofs.reload.read_trees.Given as goal

abbrev pub invariant-files : goal.invariant-files
invariant-files l =
    goal.iterator-files.can_next l.value-iterator ×
    goal.iterator-files.is_finite l.value-iterator ×
    (l.yielded ++ l.value-iterator.rest.items ≡ l.fn.files.items) ×
    (l.index ≡ length l.yielded) ×
    TreesSoFar l.fn.place l.fn.files.items l.value-iterator.rest.items l.index (map tree_view l.trees.items) ×
    All (λ t. AreWellFormed t.forest) (map tree_view l.trees.items)
