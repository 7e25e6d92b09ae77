use Rattle.std.proofs.Common.{◌≡◌, List, length, ap, ◌∙◌}
use Rattle.descriptor_tree.specs.Views.{config_view}
use Rattle.prometheus_text.specs.declared.labels.Labels.{Labels}
use Rattle.prometheus_text.specs.Labels.{labels_of}
use Rattle.prometheus_text.proofs.Walking.{trees_done, config_same, labels_count}
use Rattle.prometheus_text.proofs.labels.labels_of.Goals as goal

pub returns-clause-labels : goal.returns-clause-labels
returns-clause-labels c =
    trees_done c.trees-trees.result.now c.trees.index (config_view c.args.config.now) c.trees.labels.items c.trees-test.false c.trees-trees.ensures.trees c.trees.invariant

pub returns-clause-order : goal.returns-clause-order
returns-clause-order c = config_same (config_view c.args.config.now)

pub returns-clause-count : goal.returns-clause-count
returns-clause-count c =
    let made : c.trees.labels.items ≡ labels_of (config_view c.args.config.now) =
    trees_done c.trees-trees.result.now c.trees.index (config_view c.args.config.now) c.trees.labels.items c.trees-test.false c.trees-trees.ensures.trees c.trees.invariant in
    ap (λ (ls : List Labels). length ls) made ∙ labels_count (config_view c.args.config.now)
