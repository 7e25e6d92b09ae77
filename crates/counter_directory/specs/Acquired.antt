-- What a call of `acquire` did under the lock.
use Rattle.std.specs.Prelude.{◌≡◌, ℕ, ◌+◌, ◌≤◌, ◌<◌, List, [], ◌++◌, length, max, Result, Ok, Err, None}
use Rattle.std.specs.List.{AllByRecursion}
use mathlib.Core.Option.{some}
use lib.ListN.{get_elem?}
use Rattle.rate_types.specs.declared.counter_key.CounterKey.{CounterKey}
use Rattle.rate_types.specs.declared.counter_name.CounterName.{CounterName}
use Rattle.rate_types.specs.Sums.{times}
use Rattle.counter_cells.specs.Views.{claim_on}
use Rattle.counter_cells.specs.Steps.{number_of, last_moment}
use Rattle.counter_cells.specs.declared.view.CellView.{CellView}
use Rattle.counter_cells.specs.declared.view.Tick.{Tick}
use Rattle.counter_cells.specs.declared.view.OtherGate.{OtherGate}
use Rattle.counter_cells.specs.declared.answers.Spot.{Spot}
use Rattle.counter_directory.specs.declared.claim.Claim.{Claim}
use Rattle.counter_directory.specs.declared.acquired.Acquired.{Acquired}
use Rattle.counter_directory.specs.declared.acquired.AcquireFault.{AcquireFault}
use Rattle.counter_directory.specs.declared.acquired.AcquireFault.TheVariants.{OutOfMemory, ClaimsSpent, CountersFull}
use Rattle.counter_directory.specs.Claims.{last_end}
use Rattle.counter_directory.specs.Claims.{live_below}
use Rattle.counter_directory.specs.Gates.{HeldSince}
use Rattle.counter_directory.specs.Keys.{keys_at, IsMissing, AddsEach}
use Rattle.counter_directory.specs.Spots.{Bound, pinned_on, Agree}

-- a tick of the pass that offered nothing
abbrev pub OffersNothing : CellView → Tick → Type 0
OffersNothing v x = (x.number ≡ number_of v) × (x.offer ≡ None)

-- the pass has ticked at least once, each time with its own moment, was told which cells were found pinned for it, and did nothing else
pub record HasTicked (v w : CellView) : Type 0 where
  pub added : List Tick
  pub some : 1 ≤ length added
  pub ticks : AllByRecursion (OffersNothing v) added
  pub told : List (ℕ × ℕ)
  pub view : w ≡ record v { ticks = v.ticks ++ added; moment = last_moment v.moment added; held = v.held ++ told }
  pub later : v.moment ≤ w.moment

-- the pass has one more pin on each spot, in order; some tries before them may have missed
abbrev pub PinsAfterMisses : List Spot → CellView → CellView → Type 0
PinsAfterMisses spots v w = (missed : List OtherGate) × (w ≡ pinned_on spots (record v { others = v.others ++ missed }))

-- so many counters of the names have no claim
abbrev pub IsWanted : List Claim → List CounterKey → ℕ → Type 0
IsWanted claims keys wanted = (missing : List CounterKey) × IsMissing claims keys missing × (wanted ≡ length missing)

-- so many of the cells, each once and with its windows ended, were found pinned for the pass between these views
abbrev pub AreHeld : ℕ → List Claim → ℕ → CellView → CellView → ℕ → Type 0
AreHeld cells claims m v w n =
    (held : List ℕ) × (n ≡ length held) × HeldSince v w [] held
    × ((k : ℕ) → (times k held ≤ 1) × (1 ≤ times k held → (k < cells) × (last_end 0 k claims ≤ m)))

-- the table of claims, as a call finds and leaves it: how many numbers are used, and the claims
pub record ClaimTableView : Type 0 where
  pub used : ℕ
  pub claims : List Claim

-- the numbers of cells, of claims and of held cells that there are at most
pub record Bounds : Type 0 where
  pub cells : ℕ
  pub claims : ℕ
  pub held : ℕ

-- the claims are those found and others behind them, which were made at the moment
abbrev pub Grows : ℕ → List Claim → List Claim → Type 0
Grows moment found left =
    (added : List Claim) × (left ≡ found ++ added) × ((i : ℕ) (x : Claim) → get_elem? added i ≡ some x → x.moment ≡ moment)

-- Each counter without a claim got one at the moment. A number is used only where all numbers used before are claimed
pub record HasBound (b : Bounds) (moment : ℕ) (keys : List CounterKey) (found left : ClaimTableView) : Type 0 where
  pub grows : Grows moment found.claims left.claims
  pub missing : List CounterKey
  pub are : IsMissing found.claims keys missing
  pub adds : AddsEach found.claims missing left.claims
  pub room : length found.claims + length missing ≤ b.claims
  pub used : left.used ≡ max found.used (length left.claims)

-- more claims are wanted than there can be
pub record AreSpent (b : Bounds) (keys : List CounterKey) (found left : ClaimTableView) (claims wanted : ℕ) : Type 0 where
  pub same : left ≡ found
  pub claims_is : claims ≡ length found.claims
  pub wanted_is : IsWanted found.claims keys wanted
  pub spent : b.claims < claims + wanted

-- The live, the held and the wanted cells are more than there are. The held ones were found pinned for the cell pass in this call.
-- Cells may have been taken, under new numbers, but fewer than are wanted
pub record AreFull (b : Bounds) (keys : List CounterKey) (found left : ClaimTableView) (cell_pass cell_pass' : CellView)
    (moment live held wanted : ℕ) : Type 0 where
  pub same : left.claims ≡ found.claims
  pub wanted_is : IsWanted found.claims keys wanted
  pub some : 1 ≤ wanted
  pub unspent : length found.claims + wanted ≤ b.claims
  pub live_is : live ≡ live_below b.cells moment found.claims
  pub held_is : AreHeld b.cells found.claims moment cell_pass cell_pass' held
  pub few : held ≤ b.held
  pub full : b.cells < live + held + wanted
  pub used : left.used < length found.claims + wanted

-- the cell pass has one pin for each name, in order, under the claim of the name's counter at the answer's moment, and no other
pub record HasPinned (names : List CounterName) (cell_pass cell_pass' : CellView) (a : Acquired) (left : ClaimTableView) : Type 0 where
  pub ticked : CellView
  pub ticks : HasTicked cell_pass ticked
  pub pins : PinsAfterMisses a.spots.items ticked cell_pass'
  pub moment : a.moment ≡ cell_pass'.moment
  pub count : length a.spots.items ≡ length names
  pub bound : Bound left.claims (keys_at a.moment names) a.spots.items
  pub agree : Agree a.spots.items
  pub under : (i : ℕ) (s : Spot) → get_elem? a.spots.items i ≡ some s → claim_on s.cell cell_pass'.good ≡ s.claim

-- of the bounds, the names, the cell pass and the table found: what a call left
abbrev pub Acquires : Bounds → List CounterName → CellView → ClaimTableView → Result Acquired AcquireFault → CellView → ClaimTableView
    → Type 0
Acquires b names cell_pass found (Ok a) cell_pass' left =
    HasPinned names cell_pass cell_pass' a left × HasBound b a.moment (keys_at a.moment names) found left
Acquires b names cell_pass found (Err OutOfMemory) cell_pass' left = HasTicked cell_pass cell_pass' × (left ≡ found)
Acquires b names cell_pass found (Err (ClaimsSpent claims wanted)) cell_pass' left =
    HasTicked cell_pass cell_pass' × AreSpent b (keys_at cell_pass'.moment names) found left claims wanted
Acquires b names cell_pass found (Err (CountersFull moment live held wanted)) cell_pass' left =
    HasTicked cell_pass cell_pass' × (moment ≡ cell_pass'.moment)
    × AreFull b (keys_at moment names) found left cell_pass cell_pass' moment live held wanted
