-- The charges and looks of views as a ledger and its sights, in which a claim names a counter.
use Rattle.std.specs.Prelude.{ℕ, List, [], ◌∷◌, ◌++◌, map}
use Rattle.rate_types.specs.Ledger as ledger
use Rattle.counter_cells.specs.declared.view.Charge.{Charge}
use Rattle.counter_cells.specs.declared.view.CellView.{CellView}

-- a charge under a claim is a charge on the counter that the claim names
abbrev pub charge_of : Charge → ledger.Charge ℕ
charge_of x = record { counter = x.claim; before = x.before; hits = x.hits }

-- a look under a claim is a sight of the counter that the claim names
abbrev pub sight_of : ℕ × ℕ → ledger.Sight ℕ
sight_of p = record { counter = p.0; seen = p.1 }

-- the charges of all views
abbrev pub ledger_of : List CellView → List (ledger.Charge ℕ)
ledger_of [] = []
ledger_of (v ∷ vs) = map charge_of v.charges ++ ledger_of vs

-- the looks of all views
abbrev pub sights_of : List CellView → List (ledger.Sight ℕ)
sights_of [] = []
sights_of (v ∷ vs) = map sight_of v.looks ++ sights_of vs
