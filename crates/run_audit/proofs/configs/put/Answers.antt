use Rattle.std.proofs.Common.{List, map, set, ap, ◌∙◌}
use Rattle.std.specs.Arc.{arc_value}
use Rattle.std.proofs.lemmas.List.{map-set}
use Rattle.descriptor_tree.specs.Trees.{DomainTree}
use Rattle.descriptor_tree.specs.Views.{config_view}
use Rattle.run_audit.proofs.configs.put.Goals as goal

pub returns-in_ok-configs : goal.returns-in_ok-configs
returns-in_ok-configs c =
    let old : List (List DomainTree) = map (λ a. config_view (arc_value a)) c.args.configs.now.items in
    rw c.in-Some.is (map-set (λ a. config_view (arc_value a)) c.args.configs.now.items c.args.version c.in_ok-configs.field-0
    ∙ ap (λ (t : List DomainTree). set old c.args.version t) (ap config_view c.in_ok-configs.ensures.cases))
