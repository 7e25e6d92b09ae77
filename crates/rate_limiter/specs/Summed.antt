-- Inside: the counts of open claims, which are the totals of their counters.
use Rattle.std.specs.Prelude.{◌≡◌, ℕ, ◌<◌, ◌&&◌, nat_lt, List, [], ◌∷◌, slice_index, if◌then◌else◌}
use Rattle.std.specs.List.{AllByRecursion}
use mathlib.Core.Option.{some}
use lib.ListN.{get_elem?}
use Rattle.rate_types.specs.declared.counter_key.CounterKey.{CounterKey}
use Rattle.window_keys.specs.Counter.{window_end_of}
use Rattle.counter_directory.specs.declared.closed.OpenClaim.{OpenClaim}
use Rattle.rls_core.specs.declared.totals.Total.{Total}

-- the cell of each claim whose window is open at the moment counts what was charged on its counter
abbrev pub CountCharged : (CounterKey → ℕ) → ℕ → List ℕ → List OpenClaim → Type 0
CountCharged charged moment counts xs =
    AllByRecursion (λ (x : OpenClaim). moment < window_end_of x.key → slice_index counts x.spot.cell ≡ charged x.key) xs

-- each counter that was charged and whose window is open at the moment has one of the claims
abbrev pub HaveClaims : (CounterKey → ℕ) → ℕ → List OpenClaim → Type 0
HaveClaims charged moment xs = (q : CounterKey) → 0 < charged q → moment < window_end_of q
    → (i : ℕ) × (x : OpenClaim) × (get_elem? xs i ≡ some x) × (x.key ≡ q)

-- what the cells of these claims count, where that isn't 0 and the window of the claim's counter is open at the moment
abbrev pub open_totals : ℕ → List ℕ → List OpenClaim → List Total
open_totals moment counts [] = []
open_totals moment counts (x ∷ xs) =
    if nat_lt 0 (slice_index counts x.spot.cell) && nat_lt moment (window_end_of x.key)
    then record { key = x.key; charged = slice_index counts x.spot.cell } ∷ open_totals moment counts xs
    else open_totals moment counts xs
