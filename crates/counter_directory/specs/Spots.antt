-- The spots where the counters of a call are pinned.
use Rattle.std.specs.Prelude.{◌≡◌, ℕ, ◌≤◌, ◌==◌, List, [], ◌∷◌}
use mathlib.Core.Option.{some}
use lib.ListN.{get_elem?}
use Rattle.rate_types.specs.declared.counter_key.CounterKey.{CounterKey}
use Rattle.rate_types.specs.Sums.{total, one_if}
use Rattle.counter_cells.specs.Steps.{good_pin}
use Rattle.counter_cells.specs.declared.view.CellView.{CellView}
use Rattle.counter_cells.specs.declared.answers.Spot.{Spot}
use Rattle.counter_directory.specs.declared.claim.Claim.{Claim}
use Rattle.counter_directory.specs.Claims.{bindings_of}

-- each counter has a spot to which a claim binds it
abbrev pub Bound : List Claim → List CounterKey → List Spot → Type 0
Bound claims keys spots =
    (i : ℕ) (k : CounterKey) (s : Spot) → get_elem? keys i ≡ some k → get_elem? spots i ≡ some s → 1 ≤ bindings_of k s.cell s.claim claims

-- how many of the spots are on the cell
abbrev pub spots_on : ℕ → List Spot → ℕ
spots_on cell spots = total (λ (s : Spot). one_if (s.cell == cell)) spots

-- the view after one good pin on each spot, in order
abbrev pub pinned_on : List Spot → CellView → CellView
pinned_on [] v = v
pinned_on (s ∷ ss) v = pinned_on ss (good_pin s.cell s.claim v)

-- spots of one cell have one number
abbrev pub Agree : List Spot → Type 0
Agree spots = (i j : ℕ) (s t : Spot) → get_elem? spots i ≡ some s → get_elem? spots j ≡ some t → s.cell ≡ t.cell → s.claim ≡ t.claim

-- nothing of a pass's view changed but its good pins, and the looks that were to be used under them
abbrev pub LeavesAllButPins : CellView → CellView → Type 0
LeavesAllButPins before after = after ≡ record before { good = after.good; unused = after.unused }
