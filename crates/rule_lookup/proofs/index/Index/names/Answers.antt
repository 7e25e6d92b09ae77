use Rattle.std.proofs.Common.{List, ◌∙◌, ap, option_map}
use Rattle.std.specs.Arc.{arc_value}
use Rattle.descriptor_tree.specs.Trees.{DomainTree}
use Rattle.descriptor_tree.specs.Views.{config_view}
use Rattle.rule_lookup.specs.Level.{names_of}
use Rattle.rule_lookup.specs.Replaces.{node_at}
use Rattle.rule_lookup.proofs.Looking.{names_at_number}
use Rattle.rule_lookup.proofs.index.Index.names.Goals as goal

pub returns : goal.returns
returns c = c.names.ensures ∙ names_at_number (config_view (arc_value c.self.inside.config)) c.self.inside.roots.levels.names.items c.args.rule.0 c.self.invariant.names
    ∙ ap (λ (ts : List DomainTree). option_map names_of (node_at ts c.args.rule.0)) c.self.view_is
