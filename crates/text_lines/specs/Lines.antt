-- How bytes are cut into lines.
use Rattle.std.specs.Prelude.{ℕ, ◌==◌, List, [], ◌∷◌}
use Rattle.std.specs.List.{slice_split}

-- a last part that is empty is no line
abbrev pub unless_empty : List ℕ → List (List ℕ)
unless_empty [] = []
unless_empty (b ∷ bs) = (b ∷ bs) ∷ []

-- the parts between line feeds are the lines, but for an empty last part
abbrev pub lines_of_parts : List (List ℕ) → List (List ℕ)
lines_of_parts [] = []
lines_of_parts (x ∷ []) = unless_empty x
lines_of_parts (x ∷ y ∷ more) = x ∷ lines_of_parts (y ∷ more)

-- The lines of bytes: they are cut at each line feed, which belongs to no line.
abbrev pub cut : List ℕ → List (List ℕ)
cut bytes = lines_of_parts (slice_split (λ b. b == 10) bytes)
