-- What is counted in a view.
use Rattle.std.specs.Prelude.{◌≡◌, ℕ, ◌+◌, ◌≤◌, ◌==◌, ◌&&◌, nat_lt, Option, Some, None, List, [], ◌∷◌, if◌then◌else◌}
use Rattle.std.specs.Prelude.{slice_index_or, false}
use Rattle.std.specs.List.{AllByRecursion}
use Rattle.rate_types.specs.declared.limits.TheConstants.{MOST_HITS}
use Rattle.counter_cells.specs.declared.view.Tick.{Tick}
use Rattle.counter_cells.specs.declared.view.Charge.{Charge}
use Rattle.counter_cells.specs.declared.view.Cell.{Cell}
use Rattle.counter_cells.specs.declared.view.OtherGate.{OtherGate}
use Rattle.counter_cells.specs.declared.view.CellView.{CellView}
use Rattle.rate_types.specs.Sums.{total, one_if}

-- the most hits of one charge
abbrev pub most_hits : ℕ
most_hits = MOST_HITS

-- the good pins on a cell, and those of them under a claim
abbrev pub good_on : ℕ → CellView → ℕ
good_on cell v = total (λ p. one_if (p.0 == cell)) v.good

-- how often the claimer found a cell pinned
abbrev pub held_on : ℕ → CellView → ℕ
held_on cell v = total (λ (p : ℕ × ℕ). one_if (p.0 == cell)) v.held

-- the good pins on a cell under a claim
abbrev pub good_under : ℕ → ℕ → CellView → ℕ
good_under cell claim v = total (λ p. one_if ((p.0 == cell) && (p.1 == claim))) v.good

-- the good pins on a cell under a claim, present or past
abbrev pub ever_under : ℕ → ℕ → CellView → ℕ
ever_under cell claim v = total (λ p. one_if ((p.0 == cell) && (p.1 == claim))) v.pairs

-- the pins on a cell that the view has noted: the good ones, present or past, and those that missed
abbrev pub noted_on : ℕ → CellView → ℕ
noted_on cell v = total (λ p. one_if (p.0 == cell)) v.pairs + total (λ (x : OtherGate). one_if (x.cell == cell)) v.others

-- the unused looks on a cell that were at most the most hits
abbrev pub small_on : ℕ → CellView → ℕ
small_on cell v = total (λ p. if p.0 == cell then one_if (nat_lt p.1 (MOST_HITS + 1)) else 0) v.unused

-- the claim of the newest good pin on a cell
abbrev pub claim_on : ℕ → List (ℕ × ℕ) → ℕ
claim_on cell [] = 0
claim_on cell (p ∷ ps) = if p.0 == cell then p.1 else claim_on cell ps

-- all that the view knows under the claim, each `before + hits` and each look, is at most the count
pub record Capped (claim count : ℕ) (v : CellView) : Type 0 where
  pub charges : AllByRecursion (λ (x : Charge). x.claim ≡ claim → x.before + x.hits ≤ count) v.charges
  pub looks : AllByRecursion (λ (p : ℕ × ℕ). p.0 ≡ claim → p.1 ≤ count) v.looks

-- a cell that was never taken
abbrev pub no_cell : Cell
no_cell = record { ever = false; is_open = false; reset = false; claim = 0 }

-- what the claimer knows of the cell k
abbrev pub cell_or : List Cell → ℕ → Cell
cell_or cells k = slice_index_or cells k no_cell

-- 1 where the offer is the moment
abbrev pub offer_is : ℕ → Option ℕ → ℕ
offer_is moment None = 0
offer_is moment (Some offer) = one_if (offer == moment)

-- 1 where the tick offered the moment to the clock
abbrev pub offered : ℕ → Tick → ℕ
offered moment x = offer_is moment x.offer
