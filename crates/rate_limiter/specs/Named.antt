-- Charges under the numbers of claims, read as charges on the counters that the claims bind.
use Rattle.std.specs.Prelude.{◌≡◌, ℕ, ◌≤◌, ◌==◌, ◌&&◌, List, [], ◌∷◌}
use Rattle.rate_types.specs.declared.counter_key.CounterKey.{CounterKey}
use Rattle.rate_types.specs.Counters.{same_counter}
use Rattle.rate_types.specs.Ledger.{Charge}
use Rattle.rate_types.specs.Sums.{total, one_if}
use Rattle.counter_directory.specs.declared.claim.Claim.{Claim}

-- how many claims bind the counter under the number
abbrev pub claimed_as : CounterKey → ℕ → List Claim → ℕ
claimed_as q number claims = total (λ (x : Claim). one_if (same_counter x.key q && (x.claim == number))) claims

-- a charge under a claim's number, and the same charge on the counter that the claim binds
pub record IsNamed (claims : List Claim) (x : Charge ℕ) (y : Charge CounterKey) : Type 0 where
  pub bound : 1 ≤ claimed_as y.counter x.counter claims
  pub before : x.before ≡ y.before
  pub hits : x.hits ≡ y.hits

-- each charge in order
abbrev pub AreNamed : List Claim → List (Charge ℕ) → List (Charge CounterKey) → Type 0
AreNamed claims [] [] = Unit {0}
AreNamed claims [] (y ∷ ys) = ⊥
AreNamed claims (x ∷ xs) [] = ⊥
AreNamed claims (x ∷ xs) (y ∷ ys) = IsNamed claims x y × AreNamed claims xs ys
