use Rattle.std.proofs.Common.{◌≡◌, map, replicate}
use Rattle.std.specs.Arc.{arc_value}
use Rattle.descriptor_tree.specs.Views.{config_view}
use Rattle.run_audit.proofs.configs.copies.Given as goal

abbrev pub invariant-loop : goal.invariant-loop
invariant-loop l = map (λ a. config_view (arc_value a)) l.configs.items ≡ replicate l.counter (config_view (arc_value l.first))
