-- Numbers in rising order, and numbers that are drawn once.
use Rattle.std.specs.Prelude.{◌≡◌, ℕ, ◌≤◌, ◌<◌, List, length, slice_index}

-- each number of the list is greater than those before it
abbrev pub IsRising : List ℕ → Type 0
IsRising xs = (i j : ℕ) → i < j → j < length xs → slice_index xs i < slice_index xs j

-- where so many numbers from 0 on were drawn, this number was drawn that often: once where it is one of them, and else never
pub record IsDrawnOnce (count n often : ℕ) : Type 0 where
  pub drawn : n < count → often ≡ 1
  pub left : count ≤ n → often ≡ 0
