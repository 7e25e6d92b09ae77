-- Inside: the rows over a list of moments.
use Rattle.std.specs.Prelude.{◌≡◌, ℕ, ◌+◌, ◌*◌, ◌≤◌, List, [], ◌∷◌, ◌++◌, Option, None, length, slice_index_or, if◌then◌else◌}
use Rattle.std.specs.List.{flat_map}
use Rattle.agenda.specs.Reached.{is_reached, earlier}

-- the earlier of every two
abbrev pub halves : List (Option ℕ) → List (Option ℕ)
halves [] = []
halves (a ∷ []) = a ∷ []
halves (a ∷ b ∷ moments) = earlier a b ∷ halves moments

-- each row has the earlier of every two below, and the last one has at most one moment: no row is left out
abbrev pub IsTower : List (Option ℕ) → List (List (Option ℕ)) → Type 0
IsTower base [] = length base ≤ 1
IsTower base (row ∷ above) = (row ≡ halves base) × IsTower row above

-- an index, if its moment isn't later than `at`
abbrev pub index_if : ℕ → List (Option ℕ) → ℕ → List ℕ
index_if at moments index = if is_reached at (slice_index_or moments index None) then index ∷ [] else []

-- the two indices below one of the next row that a moment reaches
abbrev pub pair_indices : ℕ → List (Option ℕ) → ℕ → List ℕ
pair_indices at moments pair = index_if at moments (2 * pair) ++ index_if at moments (2 * pair + 1)

-- the indices of a list that a moment reaches below an index of the last of the rows over it
abbrev pub below : ℕ → List (Option ℕ) → List (List (Option ℕ)) → ℕ → List ℕ
below at moments [] index = index_if at moments index
below at moments (row ∷ above) index = flat_map (pair_indices at moments) (below at row above index)
