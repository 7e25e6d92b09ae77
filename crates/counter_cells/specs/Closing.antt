-- What closing tells.
use Rattle.std.specs.Prelude.{◌≡◌, ℕ, ◌+◌, ◌≤◌, ◌<◌, ◌⊎◌, ◌==◌, true, IfSome, List, [], ◌∷◌, ◌++◌, slice_index, if◌then◌else◌}
use Rattle.std.specs.List.{AllByRecursion}
use mathlib.Core.Option.{some}
use lib.ListN.{get_elem?}
use Rattle.rate_types.specs.Ledger.{charged_total}
use Rattle.counter_cells.specs.declared.view.Tick.{Tick}
use Rattle.counter_cells.specs.declared.view.Cell.{Cell}
use Rattle.counter_cells.specs.declared.view.CellView.{CellView}
use Rattle.rate_types.specs.Sums.{total}
use Rattle.counter_cells.specs.Views.{offered, held_on, noted_on}
use Rattle.counter_cells.specs.Ledgers.{ledger_of}
use Rattle.counter_cells.specs.Ticks.{Sourced}

-- all ticks of the passes
abbrev pub ticks_of : List CellView → List Tick
ticks_of [] = []
ticks_of (v ∷ vs) = v.ticks ++ ticks_of vs

-- the count of each cell that the claimer knows to be open is the sum of the hits that the passes charged under its claim
abbrev pub CountsAreTotals : List ℕ → CellView → List CellView → Type 0
CountsAreTotals counts claimer passes =
    (k : ℕ) (c : Cell) → get_elem? claimer.cells k ≡ some c → c.is_open ≡ true
    → slice_index counts k ≡ charged_total ◌==◌ c.claim (ledger_of passes)

-- each cell that was found pinned, by the claimer alone or for a pass, is one of the cells, and one of the passes has noted a pin there
abbrev pub AreHeldByPasses : ℕ → CellView → List CellView → Type 0
AreHeldByPasses cells claimer passes =
    (k : ℕ) → 1 ≤ held_on k claimer + total (held_on k) passes → (k < cells) × (1 ≤ total (noted_on k) passes)

-- The closing moment is the greatest of the start and of all offers, and the moment of each tick is the start,
-- an offer of its pass at this tick or an earlier one, or an offer of another pass
pub record TicksAreLawful (start moment : ℕ) (ticks : List Tick) : Type 0 where
  pub least : start ≤ moment
  pub top : (moment ≡ start) ⊎ (1 ≤ total (offered moment) ticks)
  pub offers : AllByRecursion (λ (x : Tick). IfSome x.offer (λ m. m ≤ moment)) ticks
  pub sourced : Sourced start (λ i m. total (λ (x : Tick). if x.number == i then 0 else offered m x) ticks) [] ticks
