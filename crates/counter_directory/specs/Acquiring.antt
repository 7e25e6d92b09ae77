-- Inside: what holds while a call is served.
use Rattle.std.specs.Prelude.{◌≡◌, ℕ, ◌+◌, ◌≤◌, ◌<◌, ◌==◌, ◌&&◌, List, ◌++◌, length, if◌then◌else◌, Result, Ok, Err}
use Rattle.std.specs.List.{AllByRecursion}
use mathlib.Core.Option.{some}
use lib.ListN.{get_elem?}
use Rattle.rate_types.specs.declared.counter_key.CounterKey.{CounterKey}
use Rattle.rate_types.specs.Counters.{same_counter}
use Rattle.window_keys.specs.Window.{window_start}
use Rattle.window_keys.specs.Counter.{window_end_of}
use Rattle.rate_types.specs.Sums.{one_if}
use Rattle.counter_cells.specs.Views.{cell_or}
use Rattle.counter_cells.specs.Steps.{last_moment}
use Rattle.counter_cells.specs.declared.view.Tick.{Tick}
use Rattle.counter_cells.specs.declared.view.CellView.{CellView}
use Rattle.counter_cells.specs.declared.answers.Spot.{Spot}
use Rattle.counter_directory.specs.declared.claim.Claim.{Claim}
use Rattle.counter_directory.specs.Claims.{claims_of, bindings_of}
use Rattle.counter_directory.specs.Keys.{key_count}
use Rattle.counter_directory.specs.Spots.{Bound}
use Rattle.counter_directory.specs.declared.acquired.AcquireFault.{AcquireFault}
use Rattle.counter_directory.specs.declared.acquired.AcquireFault.TheVariants.{OutOfMemory, ClaimsSpent, CountersFull}
use Rattle.counter_directory.specs.Acquired.{OffersNothing, ClaimTableView, AreSpent, AreFull, HasBound, Bounds}

-- the counters are those of windows of the moment
abbrev pub AreOf : ℕ → List CounterKey → Type 0
AreOf moment keys = (i : ℕ) (k : CounterKey) → get_elem? keys i ≡ some k → k.start ≡ window_start k.name.unit moment

-- claims bind the first counters to the spots, in order
abbrev pub AreFirstBound : List Claim → List CounterKey → List Spot → Type 0
AreFirstBound claims keys spots = (length spots ≤ length keys) × Bound claims keys spots

-- the counter at the place has no claim
abbrev pub IsUnclaimedAt : ℕ → List CounterKey → List Claim → Type 0
IsUnclaimedAt i keys claims = (i < length keys) × ((k : CounterKey) → get_elem? keys i ≡ some k → claims_of k claims ≡ 0)

-- a claim binds the counter at the place to the spot
abbrev pub IsBoundAt : ℕ → List CounterKey → List Claim → Spot → Type 0
IsBoundAt i keys claims s = (k : CounterKey) → get_elem? keys i ≡ some k → 1 ≤ bindings_of k s.cell s.claim claims

-- the counter came to the list where it has no claim and wasn't there
abbrev pub AddsMissing : List Claim → CounterKey → List CounterKey → List CounterKey → Type 0
AddsMissing claims k missing new =
    (q : CounterKey) → key_count q new ≡ key_count q missing +
    (if same_counter k q then one_if ((claims_of q claims == 0) && (key_count q missing == 0)) else 0)

-- the claimer's view shows each spot's number on its cell, where the counter's window hasn't ended
abbrev pub AreShown : CellView → ℕ → List CounterKey → List Spot → Type 0
AreShown v last keys spots =
    (i : ℕ) (k : CounterKey) (s : Spot) → get_elem? keys i ≡ some k → get_elem? spots i ≡ some s → last < window_end_of k
    → (cell_or v.cells s.cell).claim ≡ s.claim

-- the pass has ticked with its own moment, maybe never, and done nothing else
pub record TicksSoFar (v w : CellView) : Type 0 where
  pub added : List Tick
  pub ticks : AllByRecursion (OffersNothing v) added
  pub view : w ≡ record v { ticks = v.ticks ++ added; moment = last_moment v.moment added }
  pub later : v.moment ≤ w.moment

-- it has ticked so at least once
abbrev pub OnlyTicked : CellView → CellView → Type 0
OnlyTicked v w = (t : TicksSoFar v w) × (1 ≤ length t.added)

-- the pass was told which cells were found pinned for it, and nothing else changed
abbrev pub HasBeenTold : CellView → CellView → Type 0
HasBeenTold v w = (told : List (ℕ × ℕ)) × (w ≡ record v { held = v.held ++ told })

-- the counters were bound at the moment, or why not; meanwhile the cell pass was told which cells were found pinned for it
abbrev pub Binds : {A : Type 0} → Bounds → ℕ → List CounterKey → ClaimTableView → Result A AcquireFault → ClaimTableView → CellView
    → CellView → Type 0
Binds b m keys found (Ok _) left v w = HasBound b m keys found left
Binds b m keys found (Err OutOfMemory) left v w = left ≡ found
Binds b m keys found (Err (ClaimsSpent claims wanted)) left v w = AreSpent b keys found left claims wanted
Binds b m keys found (Err (CountersFull moment live held wanted)) left v w =
    (moment ≡ m) × AreFull b keys found left v w moment live held wanted
