-- Inside: where the lines of bytes begin.
use Rattle.std.specs.Prelude.{◌≡◌, ℕ, ◌+◌, ◌-◌, ◌<◌, List, length, take, drop, slice_index, slice_index_or}
use Rattle.text_lines.specs.Lines.{cut}

-- a line begins here, behind so many others
abbrev pub BeginsAt : List ℕ → ℕ → ℕ → Type 0
BeginsAt bytes number start = (start < length bytes) × (cut (drop start bytes) ≡ drop number (cut bytes))

-- the first line of what begins here ends in front of the line feed before another place, where that isn't the end of the bytes
abbrev pub EndsAt : List ℕ → ℕ → ℕ → Type 0
EndsAt bytes start next = next < length bytes
    → (start < next) × ((d : List ℕ) → slice_index_or (cut (drop start bytes)) 0 d ≡ take (next - 1 - start) (drop start bytes))

-- where each line begins, in order
pub record AreLineStarts (bytes : List ℕ) (starts : List ℕ) : Type 0 where
  pub all : length starts ≡ length (cut bytes)
  pub each : (i : ℕ) → i < length starts → BeginsAt bytes i (slice_index starts i)
  pub ends : (i : ℕ) → i + 1 < length starts → EndsAt bytes (slice_index starts i) (slice_index starts (i + 1))
