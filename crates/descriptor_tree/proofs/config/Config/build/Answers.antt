use Rattle.std.proofs.Common.{◌≡◌, List, [], map, subst, sym}
use Rattle.descriptor_tree.specs.declared.tree.Tree.{Tree}
use Rattle.descriptor_tree.specs.Trees.{tree_view}
use Rattle.descriptor_tree.specs.Faults.{config_faults}
use Rattle.descriptor_tree.specs.Config.{IsLawfulConfig}
use Rattle.descriptor_tree.proofs.Accepted.{lawful_accepted}
use Rattle.descriptor_tree.proofs.Counting.{none_first}
use Rattle.descriptor_tree.proofs.Lawful.{faultless_is_lawful, nodes_formed}
use Rattle.descriptor_tree.proofs.config.Config.build.Goals as goal

pub invariant_of-result : goal.invariant_of-result
invariant_of-result c =
    let none : config_faults (map tree_view c.args.trees.items) ≡ [] =
    subst (λ (ts : List Tree). config_faults (map tree_view ts) ≡ []) c.deref.ensures.value
    (none_first (config_faults (map tree_view c.deref.result.now)) tt tt c.in-Ok.ensures).0 in
    record { lawful = faultless_is_lawful (map tree_view c.args.trees.items) none (nodes_formed (map tree_view c.args.trees.items) c.requires); faultless = none }

pub returns-in-Err-clause-accepted : goal.returns-in-Err-clause-accepted
returns-in-Err-clause-accepted c = λ lawful.
    lawful_accepted (map tree_view c.deref.result.now) c.in-Err.fault (subst (λ (ts : List Tree). IsLawfulConfig (map tree_view ts)) (sym c.deref.ensures.value) lawful)
    c.in-Err.ensures
