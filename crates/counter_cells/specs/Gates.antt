-- Inside: the word of a gate: a claim below 2 ^ 40, a bit that is 1 where the gate is open, and a number of pins.
-- Of the code only src/gate.rt knows how the three are packed.
use Rattle.std.specs.Prelude.{ℕ, ◌+◌, ◌*◌, ◌/◌, ◌%◌, ◌==◌, ◌&&◌, Bool}

-- the word of a claim, a bit and pins
abbrev pub gate_word : ℕ → ℕ → ℕ → ℕ
gate_word claim bit pins = (claim * 65536 + pins) * 2 + bit

-- the claim that a word shows
abbrev pub claim_shown : ℕ → ℕ
claim_shown word = word / 131072

-- its open bit
abbrev pub bit_shown : ℕ → ℕ
bit_shown word = word % 2

-- its number of pins
abbrev pub pins_shown : ℕ → ℕ
pins_shown word = word / 2 % 65536

-- the gate is open under the claim
abbrev pub shows : ℕ → ℕ → Bool
shows claim word = (bit_shown word == 1) && (claim_shown word == claim)
