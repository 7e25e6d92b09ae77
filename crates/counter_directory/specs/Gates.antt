-- What the claimer knows of the cells, and what a pass was told of them, beside the list of claims.
use Rattle.std.specs.Prelude.{◌≡◌, ℕ, ◌+◌, ◌≤◌, ◌<◌, List, true}
use mathlib.Core.Option.{some}
use lib.ListN.{get_elem?}
use Rattle.rate_types.specs.Sums.{times}
use Rattle.counter_cells.specs.Views.{cell_or, held_on}
use Rattle.counter_cells.specs.declared.view.CellView.{CellView}
use Rattle.counter_cells.specs.declared.view.Cell.{Cell}
use Rattle.counter_directory.specs.declared.claim.Claim.{Claim}
use Rattle.counter_directory.specs.Claims.{end_of}

-- the cell is open under the number
abbrev pub IsOpenAs : Cell → ℕ → Type 0
IsOpenAs c number = (c.ever ≡ true) × (c.is_open ≡ true) × (c.claim ≡ number)

-- the cell of each claim whose window hasn't ended at the moment is open under the claim's number
abbrev pub AreOpen : CellView → ℕ → List Claim → Type 0
AreOpen v last claims = (i : ℕ) (x : Claim) → get_elem? claims i ≡ some x → last < end_of x → IsOpenAs (cell_or v.cells x.cell) x.claim

-- each cell that came to the held ones was found pinned for the pass between these views
abbrev pub HeldSince : CellView → CellView → List ℕ → List ℕ → Type 0
HeldSince v w held held' = (k : ℕ) → times k held' + held_on k v ≤ times k held + held_on k w
