-- Sums over lists, and how often a number is in a list.
use Rattle.std.specs.Prelude.{ℕ, ◌+◌, ◌==◌, Bool, List, [], ◌∷◌, if◌then◌else◌}

-- f of each item, added up
abbrev pub total : {A : Type 0} → (A → ℕ) → List A → ℕ
total f [] = 0
total f (x ∷ xs) = f x + total f xs

-- 1 where it is true, and else 0
abbrev pub one_if : Bool → ℕ
one_if b = if b then 1 else 0

-- how often the number is in the list
abbrev pub times : ℕ → List ℕ → ℕ
times n xs = total (λ x. one_if (x == n)) xs
