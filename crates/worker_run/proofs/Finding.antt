-- Where a sum over a list is at least 1, one of its items is.
use Rattle.std.proofs.Common.{◌≡◌, ◌⊎◌, inl, inr, ℕ, zero, suc, ◌≤◌, List, refl, arith}
use mathlib.Core.Option.{some}
use lib.ListN.{get_elem?}
use Rattle.rate_types.specs.Sums.{total}
use Rattle.rate_limiter.proofs.Places.{total_there}

pub none_or_some : (n : ℕ) → (n ≡ 0) ⊎ (1 ≤ n)
none_or_some zero = inl refl
none_or_some (suc n) = inr (omega arith)

module _ {A : Type 0} where
  -- an item of which f is at least 1, and its place
  pub record Found (f : A → ℕ) (xs : List A) : Type 0 where
    pub place : ℕ
    pub item : A
    pub at : get_elem? xs place ≡ some item
    pub has : 1 ≤ f item

  pub found : (f : A → ℕ) (xs : List A) → 1 ≤ total f xs → Found f xs
  found f xs h = let t = total_there f xs h in record { place = t.0; item = t.1; at = t.2; has = t.3 }
