-- The counters of a call, and the spots where they are pinned.
use Rattle.std.specs.Prelude.{◌≡◌, ℕ, ◌+◌, ◌==◌, ◌&&◌, nat_lt, List, map}
use Rattle.rate_types.specs.declared.counter_key.CounterKey.{CounterKey}
use Rattle.rate_types.specs.declared.counter_name.CounterName.{CounterName}
use Rattle.rate_types.specs.Counters.{same_counter}
use Rattle.window_keys.specs.Window.{window_start}
use Rattle.rate_types.specs.Sums.{total, one_if}
use Rattle.counter_directory.specs.declared.claim.Claim.{Claim}
use Rattle.counter_directory.specs.Claims.{claims_of}

-- the counter of a name in the window of a moment
abbrev pub key_at : ℕ → CounterName → CounterKey
key_at moment name = record { name = name; start = window_start name.unit moment }

-- the counters of the names, in order
abbrev pub keys_at : ℕ → List CounterName → List CounterKey
keys_at moment names = map (key_at moment) names

-- how often the counter is among these
abbrev pub key_count : CounterKey → List CounterKey → ℕ
key_count q keys = total (λ (k : CounterKey). one_if (same_counter k q)) keys

-- the counters without a claim, each once
abbrev pub IsMissing : List Claim → List CounterKey → List CounterKey → Type 0
IsMissing claims keys missing = (q : CounterKey) → key_count q missing ≡ one_if ((claims_of q claims == 0) && nat_lt 0 (key_count q keys))

-- the claims are those before, and one of each of the counters
abbrev pub AddsEach : List Claim → List CounterKey → List Claim → Type 0
AddsEach before new after = (q : CounterKey) → claims_of q after ≡ claims_of q before + key_count q new
