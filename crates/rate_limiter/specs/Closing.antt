-- What closing tells of all passes together.
use Rattle.std.specs.Prelude.{ℕ, List, map, All}
use Rattle.rate_types.specs.declared.counter_key.CounterKey.{CounterKey}
use Rattle.rate_types.specs.Counters.{same_counter}
use Rattle.rate_types.specs.Ledger.{Charge, Sight, charged_total, IsLawfulLedger, IsLawfulSight}
use Rattle.counter_cells.specs.Ledgers.{ledger_of}
use Rattle.counter_cells.specs.declared.view.CellView.{CellView}
use Rattle.counter_directory.specs.declared.claim.Claim.{Claim}
use Rattle.rls_core.specs.Totals.{AreTotals}
use Rattle.rls_core.specs.declared.totals.Total.{Total}
use Rattle.rate_limiter.specs.Named.{AreNamed}
use Rattle.rate_limiter.specs.Values.{HasSight}
use Rattle.rate_limiter.specs.Passes.{PassView}

-- what the passes did on the cells
abbrev pub cells_of : List PassView → List CellView
cells_of ps = map (λ p. p.cells) ps

-- these are the charges of all passes in order, each on a counter that a claim binds under its number
abbrev pub AreChargesOf : List Claim → List PassView → List (Charge CounterKey) → Type 0
AreChargesOf claims ps charges = AreNamed claims (ledger_of (cells_of ps)) charges

-- the charges of all passes are a lawful ledger of counters
abbrev pub IsOneLedger : List Claim → List PassView → Type 0
IsOneLedger claims ps = (charges : List (Charge CounterKey)) → AreChargesOf claims ps charges → IsLawfulLedger same_counter charges

-- and what each pass has seen is a lawful sight in it
abbrev pub AreSightsInIt : List Claim → List PassView → Type 0
AreSightsInIt claims ps = (charges : List (Charge CounterKey)) → AreChargesOf claims ps charges
    → All (λ p. (sight : Sight CounterKey) → HasSight claims p.cells sight → IsLawfulSight same_counter charges sight) ps

-- these are its totals of the windows that are open at the moment
abbrev pub AreItsTotals : List Claim → List PassView → ℕ → List Total → Type 0
AreItsTotals claims ps moment totals = (charges : List (Charge CounterKey)) → AreChargesOf claims ps charges
    → AreTotals (λ q. charged_total same_counter q charges) moment totals
