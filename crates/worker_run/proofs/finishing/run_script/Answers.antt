use Rattle.std.proofs.Common.{◌∙◌, ℕ, sym, ap, subst}
use mathlib.Core.List.{IsPrefix}
use Rattle.counter_cells.specs.Closing.{ticks_of, TicksAreLawful}
use Rattle.counter_cells.specs.Steps.{new_passes}
use Rattle.rate_limiter.specs.Closing.{cells_of}
use Rattle.rate_limiter.specs.Passes.{IsNewPass, PassView}
use Rattle.worker_run.specs.Clauses.{first_version}
use Rattle.worker_run.proofs.Gathering.{index_all}
use Rattle.worker_run.proofs.Whole.{is_run, totals}
use Rattle.worker_run.proofs.finishing.run_script.Goals as goal

pub returns-clause-run : goal.returns-clause-run
returns-clause-run g c =
    let passes = c.args.passes.items in
    let after = c.in_ok-records.field-0.passes.items in
    let closed = c.in_ok-closed.closed in
    let told = c.in_ok-closed.ensures in
    is_run g.N.CellNaming.setup.cells c.args.limiter c.args.start (g.L.ScriptLines.lines c.args.lines.now) passes after c.in_ok-records.field-0.records c.in_ok-records.ensures.run
    (first_version passes) (index_all (λ (p : PassView). IsNewPass (first_version passes) c.args.start p) passes c.requires.fresh)
    (c.requires.cells ∙ ap (λ (n : ℕ). new_passes n c.args.start) c.args.passes.ok.0) closed.moment
    (subst (λ (n : ℕ). TicksAreLawful n closed.moment (ticks_of (cells_of after))) (sym c.requires.start) told.ticks) closed.claims
    (index_all (λ (p : PassView). IsPrefix p.claims.known closed.claims) after told.claims_known) _ (sym c.args.passes.ok.0) c.requires.every c.requires.workers.0
    c.in_ok-records.ensures.records told.claims_owned told.claims closed.versions
    (index_all (λ (p : PassView). IsPrefix p.version.view.known closed.versions) after told.versions_known) told.versions_owned told.ledger told.sights
    c.in_ok-records.ensures.few c.requires.claims_max

pub returns-clause-totals : goal.returns-clause-totals
returns-clause-totals g c =
    let passes = c.args.passes.items in
    let after = c.in_ok-records.field-0.passes.items in
    let closed = c.in_ok-closed.closed in
    let told = c.in_ok-closed.ensures in
    totals g.N.CellNaming.setup.cells c.args.limiter c.args.start (g.L.ScriptLines.lines c.args.lines.now) passes after c.in_ok-records.field-0.records c.in_ok-records.ensures.run
    (first_version passes) (index_all (λ (p : PassView). IsNewPass (first_version passes) c.args.start p) passes c.requires.fresh)
    (c.requires.cells ∙ ap (λ (n : ℕ). new_passes n c.args.start) c.args.passes.ok.0) closed.moment
    (subst (λ (n : ℕ). TicksAreLawful n closed.moment (ticks_of (cells_of after))) (sym c.requires.start) told.ticks) closed.claims
    (index_all (λ (p : PassView). IsPrefix p.claims.known closed.claims) after told.claims_known) closed.totals told.totals
