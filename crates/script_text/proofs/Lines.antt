-- What the lines of a script say, one by one.
use Rattle.std.proofs.Common.{◌≡◌, ℕ, zero, suc, ◌<◌, List, [], ◌∷◌, map, length, refl, arith}
use Rattle.std.specs.Prelude.{slice_get, slice_index_or, Some}

-- what a list's item at a place comes to
pub line_at : {X Y : Type 0} (f : X → Y) (xs : List X) (k : ℕ) (d : X) → k < length xs → slice_get (map f xs) k ≡ Some (f (slice_index_or xs k d))
line_at f [] k d h = absurd (omega arith)
line_at f (x ∷ xs) zero d h = refl
line_at f (x ∷ xs) (suc k) d h = line_at f xs k d (omega arith)
