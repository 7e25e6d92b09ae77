-- Inside: what a check has after the counters of its request are pinned, or aren't.
use Rattle.std.specs.Prelude.{◌≡◌, ℕ, List, [], length}
use mathlib.Core.List.{IsPrefix}
use mathlib.Core.Option.{some}
use lib.ListN.{get_elem?}
use Rattle.rate_types.specs.declared.counter_name.CounterName.{CounterName}
use Rattle.rate_types.specs.Requests.{RequestParts}
use Rattle.rule_lookup.specs.declared.found.Found.{Found}
use Rattle.counter_directory.specs.Passes.{KnownClaims}
use Rattle.counter_cells.specs.Views.{claim_on}
use Rattle.counter_cells.specs.Steps.{number_of}
use Rattle.counter_cells.specs.declared.view.CellView.{CellView}
use Rattle.counter_cells.specs.declared.answers.Spot.{Spot}
use Rattle.counter_directory.specs.declared.acquired.AcquireFault.{AcquireFault}
use Rattle.counter_directory.specs.declared.acquired.AcquireFault.TheVariants.{OutOfMemory, ClaimsSpent, CountersFull}
use Rattle.counter_directory.specs.Acquired.{Bounds}
use Rattle.counter_directory.specs.Keys.{keys_at}
use Rattle.counter_directory.specs.Spots.{Bound}
use Rattle.rate_limiter.specs.Counts.{Keeps}
use Rattle.rate_limiter.specs.Names.{names_under}
use Rattle.rate_limiter.specs.Counters.{CountersView}
use Rattle.rate_limiter.specs.Asked.{founds, AreAsked, AreHeld}
use Rattle.rate_limiter.specs.declared.asked.Asked.{Asked}
use Rattle.rate_limiter.specs.Ticks.{HasTickedAlone}
use Rattle.rate_limiter.specs.PassStep.{HasClaimed}
use Rattle.rls_core.specs.declared.fault.CheckFault.{CheckFault}
use Rattle.rls_core.specs.declared.fault.CheckFault.TheVariants as check
use Rattle.rate_limiter.specs.Refusals.{AreClaimsSpent, AreCountersFull, one_more}

-- the pass has ticked and offered nothing, and neither looked nor charged
pub record HasWaited (v w : CellView) : Type 0 where
  pub ticked : HasTickedAlone v w
  pub keeps : Keeps v w

-- nothing of the pass changed but its pins, and what they found
pub record SameButPins (v w : CellView) : Type 0 where
  pub number : number_of w ≡ number_of v
  pub ticks : w.ticks ≡ v.ticks
  pub moment : w.moment ≡ v.moment
  pub looks : w.looks ≡ v.looks
  pub charges : w.charges ≡ v.charges
  pub held : w.held ≡ v.held

-- the counters of the names are pinned on these spots, each under a claim that binds it
pub record HasPins (names : List CounterName) (spots : List Spot) (v w : CellView) (t u : KnownClaims) : Type 0 where
  pub waited : HasWaited v w
  pub count : length spots ≡ length names
  pub bound : Bound u.known (keys_at w.moment names) spots
  pub under : (i : ℕ) (s : Spot) → get_elem? spots i ≡ some s → claim_on s.cell w.good ≡ s.claim
  pub claimed : HasClaimed (keys_at w.moment names) w.moment t u

-- What a check has before it answers: the counters are known, and pinned where something is to be counted; the pass has claimed nothing but
-- these counters, and neither looked nor charged
pub record HasHeld (cells : ℕ) (request : RequestParts) (fs : List Found) (asked : List Asked) (spots : List Spot)
    (v w : CountersView) : Type 0 where
  pub founds_are : founds asked ≡ fs
  pub asked_are : AreAsked cells request w asked
  pub held : AreHeld cells asked spots w.cells
  pub waited : HasWaited v.cells w.cells
  pub claimed : HasClaimed (keys_at w.cells.moment (names_under request request.descriptors fs)) w.cells.moment v.claims.claims
      w.claims.claims

-- why they aren't
abbrev pub HasPinCause : Bounds → List CounterName → CellView → AcquireFault → CellView → KnownClaims → Type 0
HasPinCause b names v OutOfMemory w u = Unit {0}
HasPinCause b names v (ClaimsSpent claims wanted) w u = AreClaimsSpent b (keys_at w.moment names) u.known claims wanted
HasPinCause b names v (CountersFull moment live held wanted) w u =
    AreCountersFull b (keys_at w.moment names) u.known v w moment live held wanted

-- what was claimed: for want of memory at most some of the counters, at the moment, and else nothing
abbrev pub HasClaimedFor : List CounterName → AcquireFault → CellView → KnownClaims → KnownClaims → Type 0
HasClaimedFor names OutOfMemory w t u = HasClaimed (keys_at w.moment names) w.moment t u
HasClaimedFor names (ClaimsSpent claims wanted) w t u = u.own ≡ t.own
HasClaimedFor names (CountersFull moment live held wanted) w t u = u.own ≡ t.own

-- they aren't pinned
pub record HasNoPins (b : Bounds) (names : List CounterName) (fault : AcquireFault) (v w : CellView) (t u : KnownClaims) : Type 0 where
  pub waited : HasWaited v w
  pub bare : w.good ≡ []
  pub knew : IsPrefix t.known u.known
  pub own : HasClaimedFor names fault w t u
  pub cause : HasPinCause b names v fault w u

-- the fault of the check then
abbrev pub fault_of : AcquireFault → CheckFault
fault_of OutOfMemory = check.OutOfMemory
fault_of (ClaimsSpent claims wanted) = check.ClaimsSpent claims wanted
fault_of (CountersFull moment live held wanted) = check.CountersFull moment live held wanted

-- how many checks were refused then
abbrev pub refused_after : AcquireFault → ℕ → ℕ
refused_after OutOfMemory refused = refused
refused_after (ClaimsSpent claims wanted) refused = one_more refused
refused_after (CountersFull moment live held wanted) refused = one_more refused
