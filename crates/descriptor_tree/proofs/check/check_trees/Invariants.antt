use Rattle.descriptor_tree.proofs.Trees.{TreesWalked}
use Rattle.descriptor_tree.proofs.check.check_trees.Given as goal

abbrev pub invariant-trees : goal.invariant-trees
invariant-trees l = TreesWalked l.trees l.file l.number l.domains
