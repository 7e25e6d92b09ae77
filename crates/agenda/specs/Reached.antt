-- Which indices of a list of moments a moment reaches. An index without a moment is never reached.
use Rattle.std.specs.Prelude.{ℕ, ◌+◌, Bool, false, List, [], ◌∷◌, Option, Some, None, min, nat_le, if◌then◌else◌}

-- whether a moment that there may be isn't later than `at`
abbrev pub is_reached : ℕ → Option ℕ → Bool
is_reached at None = false
is_reached at (Some moment) = nat_le moment at

-- the earlier of two moments, as far as there are such
abbrev pub earlier : Option ℕ → Option ℕ → Option ℕ
earlier None b = b
earlier (Some a) None = Some a
earlier (Some a) (Some b) = Some (min a b)

-- the indices, counted from a number on, whose moment isn't later than `at`, in rising order
abbrev pub reached_from : ℕ → ℕ → List (Option ℕ) → List ℕ
reached_from at index [] = []
reached_from at index (moment ∷ moments) =
    if is_reached at moment then index ∷ reached_from at (index + 1) moments else reached_from at (index + 1) moments

-- the indices of the whole list
abbrev pub reached : ℕ → List (Option ℕ) → List ℕ
reached at moments = reached_from at 0 moments
