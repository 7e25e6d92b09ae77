-- Inside: what the rule counts in a view.
use Rattle.std.specs.Prelude.{◌≡◌, ◌≢◌, ℕ, ◌+◌, ◌≤◌, ◌==◌, ◌&&◌, Bool, length}
use Rattle.counter_cells.specs.declared.view.Charge.{Charge}
use Rattle.counter_cells.specs.declared.view.CellView.{CellView}
use Rattle.rate_types.specs.Sums.{total, one_if}
use Rattle.counter_cells.specs.Gates.{bit_shown, claim_shown}
use Rattle.counter_cells.specs.Views.{good_on, good_under, ever_under}

-- a pair of a cell and a claim is this one
abbrev pub is_pair : ℕ → ℕ → ℕ × ℕ → Bool
is_pair cell claim p = (p.0 == cell) && (p.1 == claim)

-- the good pins on a cell under a claim
abbrev pub good_at : ℕ → ℕ → CellView → ℕ
good_at cell claim v = total (λ p. one_if (is_pair cell claim p)) v.good

-- Under a good pin of the view on the cell its gate is open under the pin's claim. A closed gate shows no claim under which the view
-- ever had a good pin there
abbrev pub OwnShown : ℕ → CellView → ℕ → Type 0
OwnShown cell v word =
    ((c : ℕ) → 1 ≤ good_under cell c v → (bit_shown word ≡ 1) × (claim_shown word ≡ c))
    × ((c : ℕ) → 1 ≤ ever_under cell c v → bit_shown word ≡ 0 → claim_shown word ≢ c)

-- the stray pins on a cell
abbrev pub stray_on : ℕ → CellView → ℕ
stray_on cell v = total (λ j. one_if (j == cell)) v.stray

-- all pins on a cell
abbrev pub pins_on : ℕ → CellView → ℕ
pins_on cell v = good_on cell v + stray_on cell v

-- all pins
abbrev pub pins_of : CellView → ℕ
pins_of v = length v.good + length v.stray

-- the unused looks on a cell, and those of them that were at most the most hits
abbrev pub unused_on : ℕ → CellView → ℕ
unused_on cell v = total (λ p. one_if (p.0 == cell)) v.unused

-- the pairs (cell, claim) under which the view has or had a good pin: of this cell and claim, and of this claim
abbrev pub pair_at : ℕ → ℕ → CellView → ℕ
pair_at cell claim v = total (λ p. one_if (is_pair cell claim p)) v.pairs

-- the pairs of a claim
abbrev pub pair_of : ℕ → CellView → ℕ
pair_of claim v = total (λ p. one_if (p.1 == claim)) v.pairs

-- how many charges and looks it has under a claim
abbrev pub charges_of : ℕ → CellView → ℕ
charges_of claim v = total (λ (x : Charge). one_if (x.claim == claim)) v.charges

-- how many looks it has under a claim
abbrev pub looks_of : ℕ → CellView → ℕ
looks_of claim v = total (λ p. one_if (p.0 == claim)) v.looks
