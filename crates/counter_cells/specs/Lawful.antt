-- Lawful cells: what holds of the words and of all views between any two steps, in eight parts.
use Rattle.std.specs.Prelude.{◌≡◌, ℕ, ◌+◌, ◌*◌, ◌≤◌, ◌<◌, ◌⊎◌, ◌==◌, nat_lt, true, false, IfSome, List, [], length}
use Rattle.std.specs.Prelude.{if◌then◌else◌}
use Rattle.std.specs.List.{AllByRecursion}
use mathlib.Core.Option.{some}
use lib.ListN.{get_elem?}
use Rattle.atomic_table.specs.Table.{State}
use Rattle.rate_types.specs.declared.limits.TheConstants.{MOST_PASSES, MOST_PINS, MOST_CLAIM_NUMBERS, LATEST_MOMENT}
use Rattle.rate_types.specs.Ledger.{IsLawfulLedger, IsLawfulSight, charged_total}
use Rattle.counter_cells.specs.declared.view.Tick.{Tick}
use Rattle.counter_cells.specs.declared.view.Cell.{Cell}
use Rattle.counter_cells.specs.declared.view.CellView.{CellView}
use Rattle.counter_cells.specs.declared.setup.Setup.{Setup}
use Rattle.rate_types.specs.Sums.{total, one_if, times}
use Rattle.counter_cells.specs.Gates.{gate_word}
use Rattle.counter_cells.specs.WordIndex.{words_of, clock_of, gate_of, count_of}
use Rattle.counter_cells.specs.Views.{most_hits, good_on, small_on}
use Rattle.counter_cells.specs.Counting.{good_at, pins_on, pins_of, unused_on, pair_at, pair_of, charges_of}
use Rattle.counter_cells.specs.Views.{Capped, offered, held_on, noted_on}
use Rattle.counter_cells.specs.Counting.{looks_of}
use Rattle.counter_cells.specs.Steps.{last_moment}
use Rattle.counter_cells.specs.Ledgers.{ledger_of, sights_of}
use Rattle.counter_cells.specs.Ticks.{Sourced}

-- what the claimer's view says: of each cell its claim and whether it is open, and all claims that were used
pub record Register : Type 0 where
  pub cells : List Cell
  pub used_claims : List ℕ

-- what holds of each cell of a register
abbrev pub EachCell : Register → (ℕ → Cell → Type 0) → Type 0
EachCell r P = (k : ℕ) (c : Cell) → get_elem? r.cells k ≡ some c → P k c

-- what holds of each view
abbrev pub EachView : List CellView → (CellView → Type 0) → Type 0
EachView views P = (j : ℕ) (v : CellView) → get_elem? views j ≡ some v → P v

-- the cell is open under the claim
abbrev pub IsOpenUnder : Register → ℕ → ℕ → Type 0
IsOpenUnder r k claim = (c : Cell) × (get_elem? r.cells k ≡ some c) × (c.is_open ≡ true) × (c.claim ≡ claim)

-- the cell was taken at some time
abbrev pub WasTaken : Register → ℕ → Type 0
WasTaken r k = (c : Cell) × (get_elem? r.cells k ≡ some c) × (c.ever ≡ true)

-- how often a moment was offered in a view
abbrev pub offers : ℕ → CellView → ℕ
offers m v = total (offered m) v.ticks

-- how often it was offered there by other passes than the one with the number
abbrev pub other_offers : ℕ → ℕ → CellView → ℕ
other_offers number m v = total (λ (x : Tick). if x.number == number then 0 else offered m x) v.ticks

-- A view's moment is at most the clock, and is the start or that of its last tick. Its ticks have its numbers
pub record TicksFit (start clock : ℕ) (others : ℕ → ℕ → ℕ) (v : CellView) : Type 0 where
  pub moment : v.moment ≤ clock
  pub last : 1 ≤ length v.numbers + one_if v.claimer → v.moment ≡ last_moment start v.ticks
  pub offers : AllByRecursion (λ (x : Tick). IfSome x.offer (λ m. m ≤ clock)) v.ticks
  pub numbers : AllByRecursion (λ (x : Tick). 1 ≤ times x.number v.numbers) v.ticks
  pub sourced : Sourced start others [] v.ticks

-- 1. The clock is the greatest of the start and of all offers, and a `Seconds`. Passes have different numbers below `passes`
pub record ClockIsGreatestOffer (a : Setup) (clock : ℕ) (views : List CellView) : Type 0 where
  pub least : a.start ≤ clock
  pub top : (clock ≡ a.start) ⊎ (1 ≤ total (offers clock) views)
  pub most : clock ≤ LATEST_MOMENT
  pub each : EachView views (TicksFit a.start clock (λ i m. total (other_offers i m) views))
  pub numbers : (i : ℕ) → total (λ v. times i v.numbers + one_if (nat_lt i v.unmade)) views ≤ one_if (nat_lt i a.passes)

-- 2. The pins that a gate shows are the pins on its cell in all views. A pass has at most 32 pins, a view that is of no pass has none
pub record PinsAreCounted (r : Register) (gate : ℕ → ℕ) (views : List CellView) : Type 0 where
  pub words : EachCell r (λ k c. gate k ≡ gate_word c.claim (one_if c.is_open) (total (pins_on k) views))
  pub few : EachView views (λ v. (pins_of v ≤ MOST_PINS) × (pins_of v ≤ MOST_PINS * length v.numbers))

-- 3. Under a good pin the gate is open with the pin's claim. There is at most one unused look a cell, under a good pin
pub record GoodPinsHold (r : Register) (views : List CellView) : Type 0 where
  pub hold : EachView views (λ v. (k claim : ℕ) → 1 ≤ good_at k claim v → IsOpenUnder r k claim)
  pub under : EachView views (λ v. (k : ℕ) → 1 ≤ unused_on k v → 1 ≤ good_on k v)
  pub once : EachView views (λ v. (k : ℕ) → (unused_on k v ≤ 1) × (unused_on k v ≤ length v.numbers))

-- 4. Cells that were ever taken have different claims, all of them used, as are those of all charges, looks and good pins.
-- Good pins, present or past, were on cells that were taken. The claimer's view has the claims and open bits
pub record ClaimsAreUsedOnce (r : Register) (views : List CellView) : Type 0 where
  pub apart : (j k : ℕ) (c d : Cell) → get_elem? r.cells j ≡ some c → get_elem? r.cells k ≡ some d → c.ever ≡ true → d.ever ≡ true
      → c.claim ≡ d.claim → j ≡ k
  pub used_claims : EachCell r (λ k c. c.ever ≡ true → 1 ≤ times c.claim r.used_claims)
  pub small : EachCell r (λ k c. c.claim < MOST_CLAIM_NUMBERS)
  pub never : EachCell r (λ k c. c.ever ≡ false → (c.is_open ≡ false) × (c.claim ≡ 0))
  pub pinned : EachView views (λ v. (k claim : ℕ) → 1 ≤ good_at k claim v → 1 ≤ pair_at k claim v)
  pub past : EachView views (λ v. (k claim : ℕ) → 1 ≤ pair_at k claim v → (1 ≤ times claim r.used_claims) × WasTaken r k)
  pub charges : EachView views (λ v. (claim : ℕ) → 1 ≤ charges_of claim v → 1 ≤ times claim r.used_claims)
  pub looks : EachView views (λ v. (claim : ℕ) → 1 ≤ looks_of claim v → 1 ≤ times claim r.used_claims)
  pub claimer : EachView views (λ v. v.claimer ≡ true → (v.cells ≡ r.cells) × (v.used_claims ≡ r.used_claims))

-- 5. The count of an open cell is the sum of the hits charged under its claim. A cell that is taken and not yet open
-- has under its claim no charge, no look and no good pin, present or past; once it is reset its count is 0
pub record CountsAreSums (r : Register) (count : ℕ → ℕ) (views : List CellView) : Type 0 where
  pub sums : EachCell r (λ k c. c.is_open ≡ true → count k ≡ charged_total ◌==◌ c.claim (ledger_of views))
  pub fresh : EachCell r (λ k c. c.is_open ≡ false → c.ever ≡ true → (total (charges_of c.claim) views ≡ 0)
      × (total (looks_of c.claim) views ≡ 0) × (total (pair_of c.claim) views ≡ 0))
  pub zeroed : EachCell r (λ k c. c.is_open ≡ false → c.ever ≡ true → c.reset ≡ true → count k ≡ 0)

-- 6. The charges of all views are a lawful ledger, in which a claim names a counter, and the looks are lawful sights.
-- Under the claim of an open cell each `before + hits` and each look is at most the count
pub record ChargesAreInOrder (r : Register) (count : ℕ → ℕ) (views : List CellView) : Type 0 where
  pub ledger : IsLawfulLedger ◌==◌ (ledger_of views)
  pub sights : AllByRecursion (IsLawfulSight ◌==◌ (ledger_of views)) (sights_of views)
  pub capped : EachCell r (λ k c. c.is_open ≡ true → EachView views (Capped c.claim (count k)))

-- 7. A count has room for the charges that unused looks still allow
abbrev pub HasHeadroom : Setup → Register → (ℕ → ℕ) → List CellView → Type 0
HasHeadroom a r count views = EachCell r (λ k c. count k + most_hits * total (small_on k) views ≤ most_hits * (1 + a.passes))

-- 8. What was found has a cause. A view has noted its pins. A cell that the claimer found pinned is one of the cells, and some
-- view has noted a pin there. What the claimer heard of the clock is at most the clock. Only passes note pins
pub record FindingsHaveCauses (a : Setup) (clock : ℕ) (views : List CellView) : Type 0 where
  pub noted : EachView views (λ v. (k : ℕ) → 1 ≤ pins_on k v → 1 ≤ noted_on k v)
  pub held : EachView views (λ v. (k : ℕ) → 1 ≤ held_on k v → (k < a.cells) × (1 ≤ total (noted_on k) views))
  pub heard : EachView views (λ v. v.heard ≤ clock)
  pub idle : EachView views (λ v. v.claimer ≡ false → length v.numbers ≡ 0 → (v.pairs ≡ []) × (v.others ≡ []))

-- There is one claimer. Each number of a pass stands in one view, or its pass is not made yet; only these have charges
pub record SeatsAreCounted (a : Setup) (views : List CellView) : Type 0 where
  pub claimer : total (λ v. one_if v.claimer) views ≡ 1
  pub passes : total (λ v. length v.numbers + v.unmade) views ≡ a.passes
  pub few : a.passes ≤ MOST_PASSES
  pub idle : EachView views (λ v. v.claimer ≡ false → length v.numbers ≡ 0 → (v.charges ≡ []) × (v.looks ≡ []))

-- the eight parts together
pub record CellsLawful (a : Setup) (r : Register) (words : List ℕ) (views : List CellView) : Type 0 where
  pub long : (length words ≡ words_of a.cells) × (length r.cells ≡ a.cells)
  pub seats : SeatsAreCounted a views
  pub clock : ClockIsGreatestOffer a (clock_of words) views
  pub pins : PinsAreCounted r (gate_of words) views
  pub good : GoodPinsHold r views
  pub claims : ClaimsAreUsedOnce r views
  pub counts : CountsAreSums r (count_of words) views
  pub order : ChargesAreInOrder r (count_of words) views
  pub room : HasHeadroom a r (count_of words) views
  pub findings : FindingsHaveCauses a (clock_of words) views

-- the rule of the table
abbrev pub AreLawful : Setup → State ℕ CellView → Type 0
AreLawful a s = (r : Register) × CellsLawful a r s.words s.views
