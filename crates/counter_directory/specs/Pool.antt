-- Inside: the pool of cells, and in which list each cell is that was ever taken.
use Rattle.std.specs.Prelude.{◌≡◌, ℕ, ◌+◌, ◌≤◌, ◌==◌, nat_lt, List, [], ◌∷◌, ◌++◌}
use mathlib.Core.Option.{some}
use lib.ListN.{get_elem?}
use Rattle.rate_types.specs.declared.counter_key.CounterKey.{CounterKey}
use Rattle.rate_types.specs.Sums.{total, one_if, times}
use Rattle.counter_cells.specs.declared.answers.Spot.{Spot}
use Rattle.counter_directory.specs.declared.claim.Claim.{Claim}
use Rattle.counter_directory.specs.declared.ring.Ring.{Ring}
use Rattle.counter_directory.specs.Claims.{claims_with, last_end, last_of}

-- the cell under the number
abbrev pub spot : ℕ → ℕ → Spot
spot cell number = record { cell = cell; claim = number }

-- how often the cell stands in the rings
abbrev pub ring_times : ℕ → List Ring → ℕ
ring_times cell rings = total (λ (r : Ring). times cell r.cells.items) rings

-- how often the cell stands among the reserved ones
abbrev pub reserved_on : ℕ → List Spot → ℕ
reserved_on cell reserved = total (λ (p : Spot). one_if (p.cell == cell)) reserved

-- how often the number stands among the reserved cells
abbrev pub reserved_as : ℕ → List Spot → ℕ
reserved_as number reserved = total (λ (p : Spot). one_if (p.claim == number)) reserved

-- Each cell below `fresh` stands in one list, once. The last window of a cell in a ring ends with the ring's, and that of
-- any other cell has ended. Of the numbers below `next_claim` each is claimed or reserved at most once
pub record IsLawfulPool (cells last fresh next_claim : ℕ) (claims : List Claim) (rings : List Ring) (expired held : List ℕ)
    (reserved : List Spot) : Type 0 where
  pub once : (k : ℕ) → ring_times k rings + times k expired + times k held + reserved_on k reserved ≡ one_if (nat_lt k fresh)
  pub most : fresh ≤ cells
  pub never : (k : ℕ) → fresh ≤ k → last_end 0 k claims ≡ 0
  pub ringed : (u : ℕ) (r : Ring) → get_elem? rings u ≡ some r → (k : ℕ) → 1 ≤ times k r.cells.items → last_end 0 k claims ≡ r.end
  pub ended : (k : ℕ) → 1 ≤ times k expired + times k held + reserved_on k reserved → last_end 0 k claims ≤ last
  pub numbered : (c : ℕ) → claims_with c claims + reserved_as c reserved ≤ one_if (nat_lt c next_claim)
  pub moment : last_of 0 claims ≤ last

-- the counter is bound at the moment to the cell reserved last, under its number
abbrev pub BindsLast : List Spot → List Spot → List Claim → List Claim → CounterKey → ℕ → Type 0
BindsLast reserved reserved' claims claims' key moment =
    (cell : ℕ) × (number : ℕ) × (reserved ≡ reserved' ++ spot cell number ∷ [])
    × (claims' ≡ claims ++ (record { key = key; cell = cell; claim = number; moment = moment }) ∷ [])
