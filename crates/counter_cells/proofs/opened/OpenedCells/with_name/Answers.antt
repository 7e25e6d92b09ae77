use Rattle.std.proofs.Common.{◌≡◌, ℕ, ◌<◌, List, [], length, get_or, sym, subst}
use Rattle.counter_cells.specs.declared.view.CellView.{CellView}
use Rattle.counter_cells.proofs.Passes.{new_bare}
use Rattle.counter_cells.proofs.opened.OpenedCells.with_name.Goals as goal

pub returns-clause-bare : goal.returns-clause-bare
returns-clause-bare g c =
    subst (λ (l : List CellView). (k : ℕ) (d : CellView) → k < length l → (get_or l k d).good ≡ []) (sym c.in_ok-made.ensures.passes)
    (λ k d h. new_bare c.args.self.passes c.args.self.start k d h)
