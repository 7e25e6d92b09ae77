use Rattle.std.proofs.Common.{◌≡◌, ◌*◌, ◌≤◌, ℕ, List, length, false, ap, ◌∙◌, subst, arith}
use Rattle.std.specs.Arc.{arc_value}
use Rattle.rate_types.specs.declared.limits.TheConstants.{MOST_LINES}
use Rattle.descriptor_tree.specs.Trees.{DomainTree}
use Rattle.descriptor_tree.specs.Views.{config_view}
use Rattle.script_run.specs.Run.{IsRun}
use Rattle.load_gen.specs.Load.{load_config, load_lines}
use Rattle.load_gen.proofs.Runs.{lines_length}
use Rattle.cli_drive.proofs.load_run.run_load.Goals as goal

pub summary-requires : goal.summary-requires
summary-requires g c =
    let many : length c.in_ok-driven.driven.records ≡ c.args.checks =
    c.in_ok-driven.ensures.run.one_record_per_line.as_many ∙ lines_length c.args.number c.args.checks in
    let bound : c.args.checks ≤ MOST_LINES = c.requires.checks in
    omega (arith, many, bound)

pub returns : goal.returns
returns g c =
    let n : ℕ = c.args.number in
    let k : ℕ = c.args.checks in
    let w : ℕ = c.args.workers in
    let config : config_view (arc_value c.in_ok-config-2.config) ≡ load_config = ap config_view c.in_ok-config-2.ensures.ok ∙ c.in_ok-config.ensures in
    let first : IsRun (config_view (arc_value c.in_ok-config-2.config)) w (64 * w) c.capped.result false (load_lines n k) c.in_ok-driven.driven.records =
    c.in_ok-driven.ensures.run in
    let at_start : IsRun (config_view (arc_value c.in_ok-config-2.config)) w (64 * w) 0 false (load_lines n k) c.in_ok-driven.driven.records =
    subst (λ (s : ℕ). IsRun (config_view (arc_value c.in_ok-config-2.config)) w (64 * w) s false (load_lines n k) c.in_ok-driven.driven.records) c.capped.ensures first in
    let by_config : IsRun load_config w (64 * w) 0 false (load_lines n k) c.in_ok-driven.driven.records =
    subst (λ (trees : List DomainTree). IsRun trees w (64 * w) 0 false (load_lines n k) c.in_ok-driven.driven.records) config at_start in
    c.in_ok-text.ensures.same n k w (64 * w) (omega arith) by_config
