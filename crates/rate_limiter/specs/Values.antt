-- Which values a pass has of a counter: those that its looks found, and those that its charges left.
use Rattle.std.specs.Prelude.{ℕ, ◌+◌, ◌≤◌, ◌==◌, ◌&&◌, min, List, length}
use Rattle.std.specs.List.{AllByRecursion}
use Rattle.rate_types.specs.declared.counter_key.CounterKey.{CounterKey}
use Rattle.rate_types.specs.Ledger.{Sight}
use Rattle.rate_types.specs.Sums.{total, one_if}
use Rattle.counter_cells.specs.Views.{Capped}
use Rattle.counter_cells.specs.declared.view.Charge.{Charge}
use Rattle.counter_cells.specs.declared.view.CellView.{CellView}
use Rattle.counter_directory.specs.declared.claim.Claim.{Claim}
use Rattle.rate_limiter.specs.Named.{claimed_as}

-- how many looks under the claim found the value
abbrev pub looks_at : ℕ → ℕ → CellView → ℕ
looks_at claim value v = total (λ (p : ℕ × ℕ). one_if ((p.0 == claim) && (p.1 == value))) v.looks

-- how many charges under the claim left the value: it is what was before, and the hits
abbrev pub charges_to : ℕ → ℕ → CellView → ℕ
charges_to claim value v = total (λ (x : Charge). one_if ((x.claim == claim) && (x.before + x.hits == value))) v.charges

-- the pass has the value under the claim
abbrev pub HasValue : ℕ → ℕ → CellView → Type 0
HasValue claim value v = 1 ≤ looks_at claim value v + charges_to claim value v

-- the value is 0, which stands for none, or the pass has it under the claim, and no other value that it has there is greater
abbrev pub HasSeen : ℕ → ℕ → CellView → Type 0
HasSeen claim seen v = 1 ≤ seen → HasValue claim seen v × Capped claim seen v

-- how many looks the pass has made, as far as a u64 can count them
abbrev pub looks_counted : CellView → ℕ
looks_counted v = min (length v.looks) 18446744073709551615

-- the pass has what was seen, under the number of a claim that binds the counter
abbrev pub HasSight : List Claim → CellView → Sight CounterKey → Type 0
HasSight claims v sight = (number : ℕ) × (1 ≤ claimed_as sight.counter number claims) × HasValue number sight.seen v

-- the same for each of these sights
abbrev pub HasSights : List Claim → CellView → List (Sight CounterKey) → Type 0
HasSights claims v sights = AllByRecursion (HasSight claims v) sights
