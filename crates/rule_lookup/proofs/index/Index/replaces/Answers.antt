use Rattle.std.proofs.Common.{List, ◌∙◌, ap}
use Rattle.descriptor_tree.specs.Trees.{DomainTree}
use Rattle.descriptor_tree.specs.Views.{config_view}
use Rattle.std.specs.Arc.{arc_value}
use Rattle.rule_lookup.specs.Replaces.{replaces}
use Rattle.rule_lookup.proofs.Looking.{names_replace}
use Rattle.rule_lookup.proofs.index.Index.replaces.Goals as goal

pub returns : goal.returns
returns c = c.replaces.ensures ∙ names_replace (config_view (arc_value c.self.inside.config)) c.self.inside.roots.levels.names.items c.args.one.0 c.args.other.0
    c.self.invariant.names
    ∙ ap (λ (ts : List DomainTree). replaces ts c.args.one.0 c.args.other.0) c.self.view_is
