-- Inside: places of nodes, which are of plain characters.
use Rattle.std.specs.Prelude.{◌≡◌, ◌≢◌, ℕ, ◌<◌, List, [], ◌∷◌, ⊤}
use Rattle.std.specs.List.{AllByRecursion}

-- a step of a place as it is written: no character stands for another one
abbrev pub IsStep : List ℕ → Type 0
IsStep step = AllByRecursion (λ b. (b < 126) × (b ≢ 47)) step

-- a place of such steps
abbrev pub IsPlain : List ℕ → Type 0
IsPlain [] = ⊤
IsPlain (b ∷ bs) = (b ≡ 47) × AllByRecursion (λ b. b < 126) bs
