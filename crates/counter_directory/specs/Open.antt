-- The claims whose windows haven't ended.
use Rattle.std.specs.Prelude.{◌≡◌, ℕ, ◌≤◌, ◌<◌, List}
use mathlib.Core.Option.{some}
use lib.ListN.{get_elem?}
use Rattle.rate_types.specs.declared.counter_key.CounterKey.{CounterKey}
use Rattle.rate_types.specs.declared.counter_name.CounterName.{CounterName}
use Rattle.rate_types.specs.Counters.{same_counter}
use Rattle.rate_types.specs.Sums.{total, one_if}
use Rattle.window_keys.specs.Counter.{window_end_of}
use Rattle.counter_cells.specs.declared.answers.Spot.{Spot}
use Rattle.counter_directory.specs.declared.claim.Claim.{Claim}
use Rattle.counter_directory.specs.declared.closed.OpenClaim.{OpenClaim}
use Rattle.counter_directory.specs.Claims.{claims_of, bindings_of}
use Rattle.counter_directory.specs.Keys.{key_at}

-- the counter of a name in the window of the moment, bound there
abbrev pub open_at : ℕ → CounterName × Spot → OpenClaim
open_at last e = record { key = key_at last e.0; spot = e.1 }

-- how many of these are of the counter
abbrev pub open_claims_of : CounterKey → List OpenClaim → ℕ
open_claims_of q xs = total (λ (x : OpenClaim). one_if (same_counter x.key q)) xs

-- each is of a counter whose window hasn't ended, and a claim binds it there; no two are of one counter; each such counter that has a
-- claim is among them
pub record AreOpenClaims (last : ℕ) (claims : List Claim) (xs : List OpenClaim) : Type 0 where
  pub are : (i : ℕ) (x : OpenClaim) → get_elem? xs i ≡ some x
      → (last < window_end_of x.key) × (1 ≤ bindings_of x.key x.spot.cell x.spot.claim claims)
  pub once : (q : CounterKey) → open_claims_of q xs ≤ 1
  pub all : (q : CounterKey) → last < window_end_of q → 1 ≤ claims_of q claims → (i : ℕ) × (x : OpenClaim) × (get_elem? xs i ≡ some x)
      × (x.key ≡ q)
