-- Changes of the first of a list that passes a test.
use Rattle.std.specs.Prelude.{List, [], ◌∷◌, Bool, if◌then◌else◌}

-- the first element that passes a test, changed
abbrev pub at_first : {X : Type 0} → (X → Bool) → (X → X) → List X → List X
at_first test change [] = []
at_first test change (x ∷ xs) = if test x then change x ∷ xs else x ∷ at_first test change xs

-- the list without the first element that passes a test
abbrev pub without_first : {X : Type 0} → (X → Bool) → List X → List X
without_first test [] = []
without_first test (x ∷ xs) = if test x then xs else x ∷ without_first test xs
