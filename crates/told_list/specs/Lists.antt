-- Sums over a list, and places of a list.
use Rattle.std.specs.Prelude.{◌≡◌, ℕ, zero, suc, ◌≤◌, ◌<◌, List, [], ◌∷◌}

-- the k numbers from n on
abbrev pub count_from : ℕ → ℕ → List ℕ
count_from n zero = []
count_from n (suc k) = n ∷ count_from (suc n) k

-- a place was owned this many times: once where it lies past the first list and within the list, and else never
pub record IsOwnedOnce (first len p owned : ℕ) : Type 0 where
  pub early : p < first → owned ≡ 0
  pub there : first ≤ p → p < len → owned ≡ 1
  pub late : len ≤ p → owned ≡ 0
