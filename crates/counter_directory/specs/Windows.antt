-- Inside: rings: the cells that were bound in one window of a unit. They stand in the order of the units.
use Rattle.std.specs.Prelude.{◌≡◌, ℕ, zero, suc, ◌+◌, ◌-◌, ◌%◌, ◌≤◌, ◌<◌, ◌⊎◌, List, [], vec_capacity}
use mathlib.Core.Option.{some}
use lib.ListN.{get_elem?}
use Rattle.counter_directory.specs.declared.ring.Ring.{Ring}

-- the seconds of the unit at a place
abbrev pub len_of : ℕ → ℕ
len_of zero = 1
len_of (suc zero) = 60
len_of (suc (suc zero)) = 3600
len_of (suc (suc (suc n))) = 86400

-- the start of the unit's window of a moment
abbrev pub start_at : ℕ → ℕ → ℕ
start_at u t = t - t % len_of u

-- the end of that window
abbrev pub end_at : ℕ → ℕ → ℕ
end_at u t = start_at u t + len_of u

-- the end of a ring's window is an end of a window of its unit, and that window has begun
abbrev pub RingWindows : ℕ → List Ring → Type 0
RingWindows last rings = (u : ℕ) (r : Ring) → get_elem? rings u ≡ some r → (r.end % len_of u ≡ 0) × (r.end ≤ last + len_of u)

-- the ring of the unit is empty, or is that of the window with this end
abbrev pub FitsRing : ℕ → ℕ → List Ring → Type 0
FitsRing u end rings = (r : Ring) → get_elem? rings u ≡ some r → (r.cells.items ≡ []) ⊎ (r.end ≡ end)

-- each ring is empty, or is that of the window of the moment
abbrev pub RingsFit : ℕ → List Ring → Type 0
RingsFit last rings = (u : ℕ) → u < 4 → FitsRing u (end_at u last) rings

-- a ring that was empty or of its window is so afterwards, where a cell came into that of the unit
abbrev pub KeepsFits : ℕ → ℕ → List Ring → List Ring → Type 0
KeepsFits u end rings new = (v e : ℕ) → (v ≡ u → e ≡ end) → FitsRing v e rings → FitsRing v e new

-- the first n rings hold no cell where their windows have ended
abbrev pub ExpiredBelow : ℕ → ℕ → List Ring → Type 0
ExpiredBelow n m rings = (u : ℕ) → u < n → (r : Ring) → get_elem? rings u ≡ some r → r.end ≤ m → r.cells.items ≡ []

-- each ring has room for so many cells
abbrev pub AreRoomy : ℕ → List Ring → Type 0
AreRoomy n rings = (u : ℕ) (r : Ring) → get_elem? rings u ≡ some r → n ≤ vec_capacity r.cells

-- each ring is empty and has had no window
abbrev pub AreEmpty : List Ring → Type 0
AreEmpty rings = (u : ℕ) (r : Ring) → get_elem? rings u ≡ some r → (r.cells.items ≡ []) × (r.end ≡ 0)
