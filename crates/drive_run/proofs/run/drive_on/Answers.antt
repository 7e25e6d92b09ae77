use Rattle.std.proofs.Common.{◌≡◌, ◌≤◌, ℕ, List, length, sym, ap₂, ◌∙◌, subst, slice_index_or, arith}
use Rattle.std.specs.Arc.{arc_value}
use Rattle.descriptor_tree.specs.Trees.{DomainTree}
use Rattle.descriptor_tree.specs.Views.{config_view}
use Rattle.counter_cells.specs.Steps.{new_passes}
use Rattle.rate_limiter.specs.Passes.{IsNewPass}
use Rattle.worker_run.specs.Clauses.{first_version}
use Rattle.drive_run.proofs.Firsts.{first_is, run_of}
use Rattle.drive_run.proofs.run.drive_on.Goals as goal

pub run_script-requires-clause-fresh : goal.run_script-requires-clause-fresh
run_script-requires-clause-fresh g c κs within =
    let ps = c.in_ok-limiter.passes.items in
    let new = c.in_ok-limiter.ensures.passes in
    let count = c.in_ok-limiter.ensures.count in
    let workers = c.requires.passes in
    let range = c.args.setup.workers_in_range in
    let long = c.in_ok-limiter.passes.ok.0 in
    let some : 1 ≤ length ps = omega arith in
    let first : first_version ps ≡ config_view (arc_value c.args.config) = first_is _ _ _ ps some new in
    λ k d lt. subst (λ (s : ℕ). IsNewPass (first_version ps) s (slice_index_or ps k d)) c.requires.start
    (subst (λ (t : List DomainTree). IsNewPass t g.N.CellNaming.setup.start (slice_index_or ps k d)) (sym first) (new k d lt).1)

pub run_script-requires-clause-cells : goal.run_script-requires-clause-cells
run_script-requires-clause-cells g c κs within = c.in_ok-limiter.ensures.cells ∙ ap₂ new_passes (sym c.in_ok-limiter.ensures.count) c.requires.start

pub returns-clause-run : goal.returns-clause-run
returns-clause-run g c =
    let ps = c.in_ok-limiter.passes.items in
    let count = c.in_ok-limiter.ensures.count in
    let workers = c.requires.passes in
    let range = c.args.setup.workers_in_range in
    let long = c.in_ok-limiter.passes.ok.0 in
    let some : 1 ≤ length ps = omega arith in
    let first : first_version ps ≡ config_view (arc_value c.args.config) = first_is _ _ _ ps some c.in_ok-limiter.ensures.passes in
    run_of (first_version ps) (config_view (arc_value c.args.config)) _ c.args.setup.workers _ c.args.setup.cells c.args.setup.start _ c.args.setup.global_shadow
    (g.L.ScriptLines.lines c.args.lines.now) c.in_ok-finished.finished.records first (count ∙ workers) c.requires.cells c.in_ok-limiter.ensures.limiter.2
    c.in_ok-finished.ensures.run
