use Rattle.std.proofs.Common.{◌≡◌, ℕ, sym, ap₂, ◌∙◌, subst, arith}
use Rattle.std.specs.Prelude.{All}
use Rattle.counter_cells.specs.Steps.{new_passes}
use Rattle.rate_limiter.specs.Passes.{IsNewPass, PassView}
use Rattle.worker_run.specs.Clauses.{first_version}
use Rattle.worker_run.proofs.Fresh.{fresh_at_first}
use Rattle.limiter_tests.proofs.workers.run.Goals as goal

pub run_script-requires-clause-fresh : goal.run_script-requires-clause-fresh
run_script-requires-clause-fresh g c κs within =
    let passes = c.in_ok-limiter.passes.items in
    let start : g.N.CellNaming.setup.start ≡ c.capped.result = omega (arith, c.requires.passes.2, c.capped.ensures) in
    subst (λ (n : ℕ). All (λ (p : PassView). IsNewPass (first_version passes) n p) passes) start
    (fresh_at_first c.in_ok-limiter.limiter.id _ g.N.CellNaming.setup.start passes c.in_ok-limiter.ensures.passes)

pub run_script-requires-clause-cells : goal.run_script-requires-clause-cells
run_script-requires-clause-cells g c κs within =
    let start : g.N.CellNaming.setup.start ≡ c.capped.result = omega (arith, c.requires.passes.2, c.capped.ensures) in
    c.in_ok-limiter.ensures.cells ∙ ap₂ new_passes (sym c.in_ok-limiter.ensures.count) start
