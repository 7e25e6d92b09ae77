-- The list of claims, and its law.
use Rattle.std.specs.Prelude.{◌≡◌, ℕ, ◌≤◌, ◌<◌, ◌==◌, ◌&&◌, List, [], ◌∷◌, take, if◌then◌else◌, zero, suc, ◌+◌, nat_lt}
use mathlib.Core.Option.{some}
use lib.ListN.{get_elem?}
use Rattle.rate_types.specs.declared.counter_key.CounterKey.{CounterKey}
use Rattle.rate_types.specs.Counters.{same_counter}
use Rattle.window_keys.specs.Counter.{window_end_of}
use Rattle.rate_types.specs.Sums.{total, one_if}
use Rattle.counter_directory.specs.declared.claim.Claim.{Claim}

-- how many claims are of the counter
abbrev pub claims_of : CounterKey → List Claim → ℕ
claims_of q xs = total (λ (x : Claim). one_if (same_counter x.key q)) xs

-- how many claims bind the counter to the cell under the number
abbrev pub bindings_of : CounterKey → ℕ → ℕ → List Claim → ℕ
bindings_of q cell number xs = total (λ (x : Claim). one_if (same_counter x.key q && ((x.cell == cell) && (x.claim == number)))) xs

-- how many claims have the number
abbrev pub claims_with : ℕ → List Claim → ℕ
claims_with number xs = total (λ (x : Claim). one_if (x.claim == number)) xs

-- the end of the window of a claim's counter
abbrev pub end_of : Claim → ℕ
end_of x = window_end_of x.key

-- the end of the window of the last claim on the cell, or d where there is none
abbrev pub last_end : ℕ → ℕ → List Claim → ℕ
last_end d cell [] = d
last_end d cell (x ∷ xs) = last_end (if x.cell == cell then end_of x else d) cell xs

-- the moment of the last claim, or d where there is none
abbrev pub last_of : ℕ → List Claim → ℕ
last_of d [] = d
last_of d (x ∷ xs) = last_of x.moment xs

-- A claim fits behind the claims before it: its counter and its number are new, its number is below the most claims,
-- its moment is no earlier, lies in its counter's window, and comes when the cell's last window has ended
pub record Fits (cells most : ℕ) (before : List Claim) (x : Claim) : Type 0 where
  pub counter : claims_of x.key before ≡ 0
  pub number : claims_with x.claim before ≡ 0
  pub small : x.claim < most
  pub cell : x.cell < cells
  pub moment : last_of 0 before ≤ x.moment
  pub window : (x.key.start ≤ x.moment) × (x.moment < end_of x)
  pub expired : last_end 0 x.cell before ≤ x.moment

-- each claim fits behind those before it
abbrev pub IsLawfulClaims : ℕ → ℕ → List Claim → Type 0
IsLawfulClaims cells most xs = (i : ℕ) (x : Claim) → get_elem? xs i ≡ some x → Fits cells most (take i xs) x

-- how many of the first n cells have a last window that hasn't ended at the moment m
abbrev pub live_below : ℕ → ℕ → List Claim → ℕ
live_below zero m claims = 0
live_below (suc n) m claims = one_if (nat_lt m (last_end 0 n claims)) + live_below n m claims
