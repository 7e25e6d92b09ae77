-- What is told of bytes, and how a call changes it. None stands where nothing is told.
use Rattle.std.specs.Prelude.{◌≡◌, ℕ, List, ◌++◌, take, Option, None, Some, ⊤}

-- a fact about a content, where it is told
abbrev pub Told : Option (List ℕ) → (List ℕ → Type 0) → Type 0
Told None P = ⊤
Told (Some bytes) P = P bytes

-- The bytes of a sink grew by these. A sink may stop telling, and tells nothing from then on.
abbrev pub Appends : Option (List ℕ) → Option (List ℕ) → List ℕ → Type 0
Appends old None bytes = ⊤
Appends None (Some new) bytes = ⊥
Appends (Some old) (Some new) bytes = new ≡ old ++ bytes

-- they grew by the first of these
abbrev pub AppendsPart : Option (List ℕ) → Option (List ℕ) → List ℕ → Type 0
AppendsPart old new bytes = (count : ℕ) × Appends old new (take count bytes)
