-- Where the moments of ticks come from.
use Rattle.std.specs.Prelude.{◌≡◌, ℕ, ◌≤◌, ◌⊎◌, ◌==◌, List, [], ◌∷◌, ◌++◌, if◌then◌else◌}
use Rattle.counter_cells.specs.declared.view.Tick.{Tick}
use Rattle.rate_types.specs.Sums.{total}
use Rattle.counter_cells.specs.Views.{offered}

-- how often the pass with the number offered the moment among these ticks
abbrev pub own_offers : ℕ → ℕ → List Tick → ℕ
own_offers number m ts = total (λ (x : Tick). if x.number == number then offered m x else 0) ts

-- the moment of each tick is the start, an offer of its pass at this tick or an earlier one, or an offer of another pass
abbrev pub Sourced : ℕ → (ℕ → ℕ → ℕ) → List Tick → List Tick → Type 0
Sourced start others earlier [] = Unit {0}
Sourced start others earlier (x ∷ xs) =
    ((x.moment ≡ start) ⊎ ((1 ≤ own_offers x.number x.moment (earlier ++ x ∷ [])) ⊎ (1 ≤ others x.number x.moment)))
    × Sourced start others (earlier ++ x ∷ []) xs
