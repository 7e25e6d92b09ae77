use Rattle.std.proofs.Common.{◌≡◌, ◌++◌, map}
use Rattle.std.specs.Arc.{arc_value}
use Rattle.descriptor_tree.specs.Views.{config_view}
use Rattle.run_audit.proofs.configs.indexed.Given as goal

abbrev pub invariant-loop-config : goal.invariant-loop-config
invariant-loop-config l = l.indexes.items ++ map (λ a. config_view (arc_value a)) l.config-iterator.rest.items ≡ map (λ a. config_view (arc_value a)) l.fn.configs.items
