-- Inside: which numbers are in a batch.
use Rattle.std.specs.Prelude.{ℕ, ◌+◌, ◌-◌, ◌*◌, min, List}
use Rattle.rate_types.specs.Sums.{total}

-- 1 for a number from the first one on, and else 0
abbrev pub reached : ℕ → ℕ → ℕ
reached first n = min 1 (n + 1 - first)

-- 1 for a number from the first one to before the end, and else 0
abbrev pub within : ℕ → ℕ → ℕ → ℕ
within first end n = reached first n - reached end n

-- in how many of these batches of a size the number of a line is
abbrev pub batched : ℕ → ℕ → ℕ → List ℕ → ℕ
batched size lines n = total (λ batch. within (batch * size) (min (batch * size + size) lines) n)
