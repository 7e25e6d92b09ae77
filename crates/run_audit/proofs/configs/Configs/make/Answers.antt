use Rattle.std.proofs.Common.{ℕ, ◌≤◌, List, length, get_or, map, sym, ap, ◌∙◌, subst}
use Rattle.std.specs.Arc.{arc_value}
use Rattle.std.specs.List.{AllByRecursion}
use Rattle.std.proofs.lemmas.List.{length-map}
use Rattle.descriptor_tree.specs.Trees.{DomainTree}
use Rattle.descriptor_tree.specs.Views.{config_view}
use Rattle.script_run.specs.Views.{line_view}
use Rattle.run_audit.proofs.VersionsBy.{made}
use Rattle.run_audit.proofs.configs.Configs.make.Goals as goal

pub returns : goal.returns
returns c =
    let first = config_view (arc_value c.args.first.now) in
    let most = c.installs-most.result in
    let known = subst (λ (m : ℕ). AllByRecursion (λ r. r.version ≤ m) c.args.records.now) (sym c.installs-most.ensures) c.requires.numbered.known in
    made first c.in_ok-zeroth.zeroth (map line_view c.args.lines.now) c.args.records.now most c.in_ok-indexes.indexes.items
    (c.in_ok-zeroth.ensures ∙ ap config_view c.in_ok-config.ensures.cases) known
    (ap length c.in_ok-indexes.ensures ∙ length-map c.in_ok-configs.configs.items (λ a. config_view (arc_value a)) ∙ c.in_ok-configs.ensures.len)
    (λ n h. ap (λ (l : List (List DomainTree)). get_or l n first) c.in_ok-indexes.ensures ∙ c.in_ok-configs.ensures.each n h)
