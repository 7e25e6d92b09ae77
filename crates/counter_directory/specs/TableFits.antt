-- Inside: how the view of the claimer and the index fit the list of claims.
use Rattle.std.specs.Prelude.{◌≡◌, ℕ, ◌≤◌, ◌<◌, List, length}
use mathlib.Core.Option.{some}
use lib.ListN.{get_elem?}
use Rattle.rate_types.specs.Sums.{times}
use Rattle.counter_cells.specs.Views.{cell_or}
use Rattle.counter_cells.specs.Steps.{taken_cell}
use Rattle.counter_cells.specs.declared.view.CellView.{CellView}
use Rattle.counter_cells.specs.declared.answers.Spot.{Spot}
use Rattle.counter_directory.specs.declared.claim.Claim.{Claim}
use Rattle.counter_directory.specs.Gates.{AreOpen}

-- The claimer has used as many numbers as `next_claim`, and none from there on. The reserved cells are closed under their
-- numbers, and the cells of windows that haven't ended are open under those of their claims
pub record GatesFit (v : CellView) (cells last next_claim : ℕ) (claims : List Claim) (waiting : List Spot) : Type 0 where
  pub long : length v.cells ≡ cells
  pub count : length v.used_claims ≡ next_claim
  pub new : (c : ℕ) → next_claim ≤ c → times c v.used_claims ≡ 0
  pub shut : (i : ℕ) (p : Spot) → get_elem? waiting i ≡ some p → (p.cell < cells) × (cell_or v.cells p.cell ≡ taken_cell p.claim)
  pub opened : AreOpen v last claims
