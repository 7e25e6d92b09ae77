use Rattle.std.proofs.Common.{List, ℕ, Option, Some, ◌∙◌, sym, ap, subst, find}
use Rattle.std.specs.Arc.{arc_value}
use Rattle.std.specs.Option.{option_map_or}
use Rattle.rate_types.specs.Counters.{same_text}
use Rattle.rate_types.specs.declared.request.OwnLimit.{OwnLimit}
use Rattle.descriptor_tree.specs.Trees.{DomainTree}
use Rattle.descriptor_tree.specs.Views.{config_view}
use Rattle.rule_lookup.specs.declared.found.Found.TheVariants.{NoRule}
use Rattle.rule_lookup.specs.Rule.{numbered_trees, NumberedTree, own_or, rule_from, rule_of}
use Rattle.rule_lookup.specs.Level.{AgreeTree}
use Rattle.rule_lookup.proofs.Looking.{walk_is_rule}
use Rattle.rule_lookup.proofs.index.lookup.Goals as goal

pub returns-in-None : goal.returns-in-None
returns-in-None c =
    let trees : List DomainTree = config_view (arc_value c.index.inside.config) in
    let t : Option NumberedTree = find (λ u. same_text u.tree.domain c.args.domain.now) (numbered_trees 0 (config_view (arc_value c.index.inside.config))) in
    let first : AgreeTree c.index.inside.roots.levels.levels.items (Some c.in-Some.first)
    (find (λ u. same_text u.tree.domain c.args.domain.now) (numbered_trees 0 (config_view (arc_value c.index.inside.config)))) =
    subst (λ (o : Option ℕ). AgreeTree c.index.inside.roots.levels.levels.items o
    (find (λ u. same_text u.tree.domain c.args.domain.now) (numbered_trees 0 (config_view (arc_value c.index.inside.config)))))
    (sym c.in-Some.ensures) (c.index.invariant.first c.args.domain.now) in
    c.walk.ensures
    ∙ walk_is_rule c.index.inside.roots.levels.levels.items c.in-Some.first
    (find (λ u. same_text u.tree.domain c.args.domain.now) (numbered_trees 0 (config_view (arc_value c.index.inside.config)))) c.items.result.now first
    ∙ ap (λ es. option_map_or (λ u. rule_from es NoRule u.number u.tree.forest)
    (find (λ u. same_text u.tree.domain c.args.domain.now) (numbered_trees 0 (config_view (arc_value c.index.inside.config)))) NoRule) c.items.ensures.all
    ∙ ap (λ (o : Option OwnLimit). option_map_or (λ u. own_or o (rule_from c.args.descriptor.now.entries NoRule u.number u.tree.forest))
    (find (λ u. same_text u.tree.domain c.args.domain.now) (numbered_trees 0 (config_view (arc_value c.index.inside.config)))) NoRule) (sym c.in-None.is)
    ∙ ap (λ ts. rule_of ts c.args.domain.now c.args.descriptor.now) c.index.view_is
