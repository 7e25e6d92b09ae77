-- Inside: what the claimer's steps on a gate tell.
use Rattle.std.specs.Prelude.{◌≡◌, ℕ, ◌≤◌}
use Rattle.counter_cells.specs.declared.view.CellView.{CellView}
use Rattle.rate_types.specs.Sums.{one_if}
use Rattle.counter_cells.specs.Gates.{claim_shown, bit_shown, pins_shown}
use Rattle.counter_cells.specs.Views.{cell_or}
use Rattle.counter_cells.specs.Steps.{claimed_by, held_by}

-- the claimer reads its cell's word: the claim and the open bit are as it knows
abbrev pub Peeked : ℕ → CellView → ℕ → CellView → Type 0
Peeked cell v word w = (w ≡ v) × (bit_shown word ≡ one_if (cell_or v.cells cell).is_open)
    × (claim_shown word ≡ (cell_or v.cells cell).claim)

-- the cell is taken under the claim where the word is the one expected; else it shows pins
abbrev pub Reclaimed : ℕ → ℕ → ℕ → CellView → ℕ → CellView → Type 0
Reclaimed cell expected claim v word w =
    (word ≡ expected → w ≡ claimed_by cell claim v) ×
    ((word ≡ expected → ⊥) → (w ≡ held_by cell (pins_shown word) v) × (1 ≤ pins_shown word))
