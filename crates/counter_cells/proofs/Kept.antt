-- The rule in the form that the steps keep, cell by cell and view by view, and that it is the same as lawful cells.
use Rattle.std.proofs.Common.{◌≡◌, ℕ, ◌+◌, ◌*◌, ◌^◌, ◌≤◌, ◌<◌, ◌==◌, List, [], length, true, false, cond}
use Rattle.std.specs.Prelude.{ltb}
use Rattle.std.specs.List.{AllByRecursion}
use mathlib.Core.Option.{some}
use lib.ListN.{get_elem?}
use Rattle.atomic_table.specs.Table.{State}
use Rattle.counter_cells.specs.declared.view.Charge.{Charge}
use Rattle.counter_cells.specs.declared.view.Cell.{Cell}
use Rattle.counter_cells.specs.declared.view.CellView.{CellView}
use Rattle.counter_cells.specs.declared.setup.Setup.{Setup}
use Rattle.rate_types.specs.Sums.{total, one_if, times}
use Rattle.counter_cells.specs.Gates.{gate_word}
use Rattle.counter_cells.specs.WordIndex.{gate_of, count_of, clock_of, words_of}
use Rattle.counter_cells.specs.Views.{most_hits, good_on, small_on, Capped}
use Rattle.counter_cells.specs.Counting.{good_at, pins_on, pins_of, unused_on, pair_at, pair_of, charges_of, looks_of}
use Rattle.counter_cells.specs.Lawful.{Register, ClockIsGreatestOffer, FindingsHaveCauses}

-- a view's hits under a claim, those of charges with less before them, and its charges with exactly this before them
abbrev pub hits_of : ℕ → CellView → ℕ
hits_of c v = total (λ (x : Charge). cond (x.claim == c) x.hits 0) v.charges

abbrev pub hits_below : ℕ → ℕ → CellView → ℕ
hits_below c b v = total (λ (x : Charge). cond (x.claim == c) (cond (ltb x.before b) x.hits 0) 0) v.charges

abbrev pub charges_at : ℕ → ℕ → CellView → ℕ
charges_at c b v = total (λ (x : Charge). cond (x.claim == c) (one_if (x.before == b)) 0) v.charges

-- one cell, by what all views say of it and of its claim
pub record CellFits (passes : ℕ) (st : Cell) (gate count pins small hits charges looks pairs : ℕ) : Type 0 where
  pub word : gate ≡ gate_word st.claim (one_if st.is_open) pins
  pub never : st.ever ≡ false → (st.is_open ≡ false) × (st.claim ≡ 0)
  pub sum : st.is_open ≡ true → count ≡ hits
  pub fresh : st.is_open ≡ false → st.ever ≡ true → (charges ≡ 0) × (looks ≡ 0) × (pairs ≡ 0)
  pub zeroed : st.is_open ≡ false → st.ever ≡ true → st.reset ≡ true → count ≡ 0
  pub room : count + most_hits * small ≤ most_hits * (1 + passes)

abbrev pub cell_fits : ℕ → Cell → ℕ → ℕ → List CellView → ℕ → Type 0
cell_fits passes st gate count views k =
    CellFits passes st gate count (total (pins_on k) views) (total (small_on k) views) (total (hits_of st.claim) views) (total (charges_of st.claim) views)
    (total (looks_of st.claim) views) (total (pair_of st.claim) views)

-- one view, by the register
pub record ViewFits (t : Register) (count : ℕ → ℕ) (v : CellView) : Type 0 where
  pub pins : (pins_of v ≤ 32) × (pins_of v ≤ 32 * length v.numbers)
  pub good : (k c : ℕ) → 1 ≤ good_at k c v → (st : Cell) × (get_elem? t.cells k ≡ some st) × (st.is_open ≡ true) × (st.claim ≡ c) × (1 ≤ pair_at k c v)
  pub under : (k : ℕ) → 1 ≤ unused_on k v → 1 ≤ good_on k v
  pub once : (k : ℕ) → (unused_on k v ≤ 1) × (unused_on k v ≤ length v.numbers)
  pub past : (k c : ℕ) → 1 ≤ pair_at k c v → (1 ≤ times c t.used_claims) × ((st : Cell) × (get_elem? t.cells k ≡ some st) × (st.ever ≡ true))
  pub charges : (c : ℕ) → 1 ≤ charges_of c v → 1 ≤ times c t.used_claims
  pub looks : (c : ℕ) → 1 ≤ looks_of c v → 1 ≤ times c t.used_claims
  pub idle : v.claimer ≡ false → length v.numbers ≡ 0 → (v.charges ≡ []) × (v.looks ≡ [])
  pub claimer : v.claimer ≡ true → (v.cells ≡ t.cells) × (v.used_claims ≡ t.used_claims)
  pub caps : (k : ℕ) (st : Cell) → get_elem? t.cells k ≡ some st → st.is_open ≡ true → Capped st.claim (count k) v

-- the register by itself
pub record RegisterFits (t : Register) : Type 0 where
  pub apart : (j k : ℕ) (s u : Cell) → get_elem? t.cells j ≡ some s → get_elem? t.cells k ≡ some u → s.ever ≡ true → u.ever ≡ true → s.claim ≡ u.claim → j ≡ k
  pub used_claims : (k : ℕ) (s : Cell) → get_elem? t.cells k ≡ some s → s.ever ≡ true → 1 ≤ times s.claim t.used_claims
  pub small : (k : ℕ) (s : Cell) → get_elem? t.cells k ≡ some s → s.claim < 2 ^ 40

-- a view's charges and looks, by the charges of all views
pub record ViewLawful (views : List CellView) (v : CellView) : Type 0 where
  pub charges : AllByRecursion (λ (x : Charge). (1 ≤ x.hits) × (x.before ≡ total (hits_below x.claim x.before) views)) v.charges
  pub looks : AllByRecursion (λ (p : ℕ × ℕ). p.1 ≡ total (hits_below p.0 p.1) views) v.looks

pub record Rule (a : Setup) (t : Register) (gate count : ℕ → ℕ) (views : List CellView) : Type 0 where
  pub truth : RegisterFits t
  pub cells : (k : ℕ) (st : Cell) → get_elem? t.cells k ≡ some st → cell_fits a.passes st (gate k) (count k) views k
  pub each : (j : ℕ) (v : CellView) → get_elem? views j ≡ some v → ViewFits t count v
  pub once : (c b : ℕ) → total (charges_at c b) views ≤ 1
  pub lawful : (j : ℕ) (v : CellView) → get_elem? views j ≡ some v → ViewLawful views v
  pub claimer : total (λ v. one_if v.claimer) views ≡ 1
  pub parts : total (λ v. length v.numbers + v.unmade) views ≡ a.passes
  pub few : a.passes ≤ 1024

abbrev pub Holds : Setup → State ℕ CellView → Type 0
Holds a s = (t : Register) × (length s.words ≡ words_of (length t.cells)) × (length t.cells ≡ a.cells) × Rule a t (gate_of s.words) (count_of s.words) s.views
    × ClockIsGreatestOffer a (clock_of s.words) s.views × FindingsHaveCauses a (clock_of s.words) s.views
