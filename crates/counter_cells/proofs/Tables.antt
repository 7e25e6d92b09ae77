-- What the table asks of each kind of step, at the word's index.
use Rattle.std.proofs.Common.{◌≡◌, ℕ, ◌+◌, ◌-◌, ◌%◌, ◌^◌, ◌≤◌, ◌<◌, ◌==◌, max, true, length, sym, subst, arith}
use Rattle.std.specs.Prelude.{bit_or}
use prog.Atomic.{either}
use Rattle.atomic_table.specs.Table.{Me, Allows}
use Rattle.counter_cells.specs.declared.view.CellView.{CellView}
use Rattle.counter_cells.specs.declared.setup.Setup.{Setup}
use Rattle.rate_types.specs.Sums.{one_if, times}
use Rattle.counter_cells.specs.Gates.{gate_word, claim_shown}
use Rattle.counter_cells.specs.WordIndex.{gate_at, count_at, gate_cell, count_cell}
use Rattle.counter_cells.specs.Views.{most_hits, good_on, small_on, claim_on, cell_or, Capped}
use Rattle.counter_cells.specs.Counting.{stray_on, pins_of, OwnShown}
use Rattle.counter_cells.specs.Steps.{ticked, glanced, has_heard, unpinned, looked, charged, reset_by, opened_by}
use Rattle.counter_cells.specs.InnerSteps.{pinned, stray_unpinned}
use Rattle.counter_cells.specs.Claiming.{Peeked, Reclaimed}
use Rattle.counter_cells.specs.Lawful.{AreLawful}
use Rattle.counter_cells.specs.Seats.{IsTaken}
use Rattle.counter_cells.proofs.Kept.{Holds}
use Rattle.counter_cells.proofs.Regrouping.{allows_as}
use Rattle.counter_cells.proofs.Steps as steps

-- of the rule cell by cell, and at the word that stands where the step says
indexed : (key : Setup) (slots id : ℕ) (me : Me ℕ CellView) (f : ℕ → ℕ) (then : ℕ → ℕ → Me ℕ CellView → Type 0) (at index : ℕ) → index ≡ at
    → Allows (Holds key) slots id me at f (then at) → Allows (AreLawful key) slots id me index f (then index)
indexed key slots id me f then at index is go = subst (λ x. Allows (AreLawful key) slots id me x f (then x)) (sym is) (allows_as key slots id me at f (then at) go)

module _ (key : Setup) (slots id : ℕ) (me : Me ℕ CellView) where
  pub tick_asks : (now : ℕ) → 1 ≤ length me.0.numbers → now ≤ 1000000000000
      → Allows (AreLawful key) slots id me 0 (λ n. max n now) (λ n w. (w.0 ≡ ticked (max n now) now me.0) × (w.1 ≡ me.1) × (me.0.moment ≤ n) × (n ≤ 1000000000000))
  tick_asks now live low = allows_as key slots id me 0 (λ n. max n now) (λ n w. (w.0 ≡ ticked (max n now) now me.0) × (w.1 ≡ me.1) × (me.0.moment ≤ n) × (n ≤ 1000000000000))
      (steps.ticks key slots id now me live low)

  pub glance_asks : (now : ℕ) → 1 ≤ length me.0.numbers → now ≤ 1000000000000
      → Allows (AreLawful key) slots id me 0 (λ n. n) (λ n w. (w.0 ≡ glanced n now me.0) × (w.1 ≡ me.1) × (me.0.moment ≤ n) × (n ≤ 1000000000000))
  glance_asks now live low = allows_as key slots id me 0 (λ n. n) (λ n w. (w.0 ≡ glanced n now me.0) × (w.1 ≡ me.1) × (me.0.moment ≤ n) × (n ≤ 1000000000000))
      (steps.glances key slots id now me live low)

  pub hear_asks : Allows (AreLawful key) slots id me 0 (λ n. n) (λ n w. (w.0 ≡ has_heard n me.0) × (w.1 ≡ me.1) × (me.0.heard ≤ n) × (n ≤ 1000000000000))
  hear_asks = allows_as key slots id me 0 (λ n. n) (λ n w. (w.0 ≡ has_heard n me.0) × (w.1 ≡ me.1) × (me.0.heard ≤ n) × (n ≤ 1000000000000)) (steps.hears key slots id me)

-- a cell's gate stands at `index`
module _ (key setup : Setup) (same : key ≡ setup) (slots id k index : ℕ) (me : Me ℕ CellView) (within : k < setup.cells) (is : index ≡ gate_at k) where
  gate_within : k < key.cells
  gate_within = subst (λ (a : Setup). k < a.cells) (sym same) within

  pub pin_asks : (claim : ℕ) → (pins_of me.0 < 32) × (1 ≤ length me.0.numbers)
      → Allows (AreLawful key) slots id me index (λ n. (n + 2) % 2 ^ 64)
      (λ n w. (w.0 ≡ pinned claim (gate_cell index) n me.0) × (w.1 ≡ me.1) × OwnShown (gate_cell index) me.0 n)
  pin_asks claim able = indexed key slots id me (λ n. (n + 2) % 2 ^ 64)
      (λ x n w. (w.0 ≡ pinned claim (gate_cell x) n me.0) × (w.1 ≡ me.1) × OwnShown (gate_cell x) me.0 n) (gate_at k) index is
      (steps.pins key slots id k me gate_within claim able)

  pub unpin_asks : 1 ≤ good_on k me.0 → Allows (AreLawful key) slots id me index (λ n. (n + (2 ^ 64 - 2)) % 2 ^ 64)
      (λ n w. (w.0 ≡ unpinned (gate_cell index) me.0) × (w.1 ≡ me.1))
  unpin_asks pin = indexed key slots id me (λ n. (n + (2 ^ 64 - 2)) % 2 ^ 64) (λ x n w. (w.0 ≡ unpinned (gate_cell x) me.0) × (w.1 ≡ me.1)) (gate_at k) index is
      (steps.unpins key slots id k me gate_within pin)

  pub unpin_stray_asks : 1 ≤ stray_on k me.0 → Allows (AreLawful key) slots id me index (λ n. (n + (2 ^ 64 - 2)) % 2 ^ 64)
      (λ n w. (w.0 ≡ stray_unpinned (gate_cell index) me.0) × (w.1 ≡ me.1))
  unpin_stray_asks pin = indexed key slots id me (λ n. (n + (2 ^ 64 - 2)) % 2 ^ 64) (λ x n w. (w.0 ≡ stray_unpinned (gate_cell x) me.0) × (w.1 ≡ me.1)) (gate_at k) index is
      (steps.unpins_stray key slots id k me gate_within pin)

  pub peek_asks : me.0.claimer ≡ true → Allows (AreLawful key) slots id me index (λ n. n) (λ n w. Peeked (gate_cell index) me.0 n w.0 × (w.1 ≡ me.1))
  peek_asks role = indexed key slots id me (λ n. n) (λ x n w. Peeked (gate_cell x) me.0 n w.0 × (w.1 ≡ me.1)) (gate_at k) index is
      (steps.peeks key slots id k me gate_within role)

  pub open_asks : me.0.claimer ≡ true → IsTaken (cell_or me.0.cells k) → (cell_or me.0.cells k).reset ≡ true
      → Allows (AreLawful key) slots id me index (λ n. bit_or n 1) (λ n w. (w.0 ≡ opened_by (gate_cell index) me.0) × (w.1 ≡ me.1))
  open_asks role taken done =
      indexed key slots id me (λ n. bit_or n 1) (λ x n w. (w.0 ≡ opened_by (gate_cell x) me.0) × (w.1 ≡ me.1)) (gate_at k) index is
      (steps.opens key slots id k me gate_within role taken.0 taken.1 done)

  pub reclaim_asks : (old new next : ℕ) → me.0.claimer ≡ true → old ≡ gate_word (cell_or me.0.cells k).claim (one_if (cell_or me.0.cells k).is_open) 0 → new ≡ gate_word next 0 0
      → next < 2 ^ 40 → times next me.0.used_claims ≡ 0
      → Allows (AreLawful key) slots id me index (λ n. either (n == old) new n) (λ n w. Reclaimed (gate_cell index) old (claim_shown new) me.0 n w.0 × (w.1 ≡ me.1))
  reclaim_asks old new next role known word low never_used =
      let shown : next ≡ claim_shown new = omega arith in
      indexed key slots id me (λ n. either (n == old) new n) (λ x n w. Reclaimed (gate_cell x) old (claim_shown new) me.0 n w.0 × (w.1 ≡ me.1)) (gate_at k) index is
      (subst (λ (x : ℕ × ℕ). Allows (Holds key) slots id me (gate_at k) (λ n. either (n == old) x.0 n)
      (λ n w. Reclaimed (gate_cell (gate_at k)) old x.1 me.0 n w.0 × (w.1 ≡ me.1))) (λ i. (sym word i, shown i))
      (steps.reclaims key slots id k me gate_within role old next known low never_used))

-- a cell's count stands at `index`
module _ (key setup : Setup) (same : key ≡ setup) (slots id k index : ℕ) (me : Me ℕ CellView) (within : k < setup.cells) (is : index ≡ count_at k) where
  count_within : k < key.cells
  count_within = subst (λ (a : Setup). k < a.cells) (sym same) within

  pub look_asks : 1 ≤ good_on k me.0 → Allows (AreLawful key) slots id me index (λ n. n)
      (λ n w. (w.0 ≡ looked (count_cell index) n me.0) × (w.1 ≡ me.1) × Capped (claim_on (count_cell index) me.0.good) n me.0)
  look_asks pin = indexed key slots id me (λ n. n) (λ x n w. (w.0 ≡ looked (count_cell x) n me.0) × (w.1 ≡ me.1) × Capped (claim_on (count_cell x) me.0.good) n me.0)
      (count_at k) index is (steps.looks key slots id k me count_within pin)

  pub charge_asks : (hits : ℕ) → 1 ≤ small_on k me.0 → (1 ≤ hits) × (hits ≤ most_hits)
      → Allows (AreLawful key) slots id me index (λ n. (n + hits) % 2 ^ 64)
      (λ n w. (w.0 ≡ charged (count_cell index) n hits me.0) × (w.1 ≡ me.1) × Capped (claim_on (count_cell index) me.0.good) n me.0 × (n + hits < 2 ^ 64))
  charge_asks hits small low =
      indexed key slots id me (λ n. (n + hits) % 2 ^ 64)
      (λ x n w. (w.0 ≡ charged (count_cell x) n hits me.0) × (w.1 ≡ me.1) × Capped (claim_on (count_cell x) me.0.good) n me.0 × (n + hits < 2 ^ 64))
      (count_at k) index is (steps.charges key slots id k me count_within hits small low)

  pub reset_asks : me.0.claimer ≡ true → IsTaken (cell_or me.0.cells k)
      → Allows (AreLawful key) slots id me index (λ _. 0) (λ n w. (w.0 ≡ reset_by (count_cell index) me.0) × (w.1 ≡ me.1))
  reset_asks role taken = indexed key slots id me (λ _. 0) (λ x n w. (w.0 ≡ reset_by (count_cell x) me.0) × (w.1 ≡ me.1)) (count_at k) index is
      (steps.resets key slots id k me count_within role taken.0 taken.1)
