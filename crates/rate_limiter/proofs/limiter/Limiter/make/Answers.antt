use Rattle.std.proofs.Common.{◌∙◌, All, length, refl, sym, subst, ap, arith}
use Rattle.rate_limiter.specs.Made.{IsNewCellPass}
use Rattle.rate_limiter.proofs.Making.{new_cell_passes, len_passes}
use Rattle.rate_limiter.proofs.limiter.Limiter.make.Goals as goal

pub overflow_cast-count : goal.overflow_cast-count
overflow_cast-count g c =
    let n = c.in_ok-cells.cell_passes.ok.0 ∙ ap length c.in_ok-cells.ensures.passes ∙ len_passes g.N.CellNaming.setup.passes g.N.CellNaming.setup.start in
    omega (arith, c.len-count.ensures, n, c.requires.passes)

pub make-requires-clause-passes : goal.make-requires-clause-passes
make-requires-clause-passes g c =
    let n = c.in_ok-cells.cell_passes.ok.0 ∙ ap length c.in_ok-cells.ensures.passes ∙ len_passes g.N.CellNaming.setup.passes g.N.CellNaming.setup.start in
    (omega (arith, c.len-count.ensures, n, c.requires.passes), omega (arith, c.len-count.ensures, n, c.requires.passes), c.len-count.ensures ∙ n)

pub passes_of-requires-clause-cells : goal.passes_of-requires-clause-cells
passes_of-requires-clause-cells g c =
    let setup = g.N.CellNaming.setup in
    subst (All (IsNewCellPass setup.start)) (sym c.in_ok-cells.ensures.passes) (new_cell_passes setup.passes setup.start)

pub invariant_of-limiter : goal.invariant_of-limiter
invariant_of-limiter g c =
    let n = c.in_ok-cells.cell_passes.ok.0 ∙ ap length c.in_ok-cells.ensures.passes ∙ len_passes g.N.CellNaming.setup.passes g.N.CellNaming.setup.start in
    (c.in_ok-directory.ensures.directory.0 ∙ c.len-count.ensures ∙ n, c.in_ok-versions.ensures.count.0 ∙ c.len-count.ensures ∙ n)

pub returns-clause-limiter : goal.returns-clause-limiter
returns-clause-limiter g c =
    let n = c.in_ok-cells.cell_passes.ok.0 ∙ ap length c.in_ok-cells.ensures.passes ∙ len_passes g.N.CellNaming.setup.passes g.N.CellNaming.setup.start in
    (c.in_ok-directory.ensures.directory.0 ∙ c.len-count.ensures ∙ n, c.in_ok-directory.ensures.directory.1, refl)

pub returns-clause-count : goal.returns-clause-count
returns-clause-count g c =
    let n = c.in_ok-cells.cell_passes.ok.0 ∙ ap length c.in_ok-cells.ensures.passes ∙ len_passes g.N.CellNaming.setup.passes g.N.CellNaming.setup.start in
    c.in_ok-passes.ensures.count ∙ n
