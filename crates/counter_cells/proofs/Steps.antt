-- The steps as a table asks for them.
use Rattle.std.proofs.Common.{◌≡◌, ℕ, zero, suc, ◌+◌, ◌-◌, ◌*◌, ◌/◌, ◌%◌, ◌^◌, ◌≤◌, ◌<◌, ◌==◌, ◌&&◌, max, Bool, true, false, List, [], ◌∷◌, length, set, cond, refl}
use Rattle.std.proofs.Common.{sym, ap, ◌∙◌, subst}
use Rattle.std.proofs.Common.{arith, length-set, get_or, lit<, inl}
use Rattle.std.specs.Prelude.{slice_index}
use Rattle.std.proofs.lemmas.List.{get_or-set_other, get_or-set_same, set-get_or}
use mathlib.Core.Option.{some, some-injective, some-ne-none}
use lib.ListN.{get_elem?}
use Rattle.atomic_table.specs.Table.{State, Me, Allows, Act, keeps, stepped, Valid, carried_after}
use Rattle.atomic_table.proofs.Lists.{set_again}
use Rattle.std.proofs.lemmas.Nat.{or_shifted}
use Rattle.std.proofs.lemmas.Bool.{eq-eqb, ne_eqb, lt-ltb, le-ltb}
use native.Mathlib.Decide.{ℕ_discrete, dec_lt}
use prog.Atomic.{either}
use Rattle.std.specs.Prelude.{bit_or}
use Rattle.counter_cells.proofs.Reclaiming.{reclaim_keeps}
use Rattle.counter_cells.proofs.Resetting.{reset_keeps}
use Rattle.counter_cells.proofs.Opening.{open_keeps}
use Rattle.counter_cells.specs.declared.view.Cell.{Cell}
use Rattle.counter_cells.specs.declared.view.CellView.{CellView}
use Rattle.counter_cells.specs.declared.setup.Setup.{Setup}
use Rattle.rate_types.specs.Sums.{total, one_if, times}
use Rattle.counter_cells.specs.Gates.{shows, gate_word, pins_shown}
use Rattle.counter_cells.specs.WordIndex.{gate_at, count_at, count_cell, gate_cell, gate_of, count_of, words_of}
use Rattle.counter_cells.specs.Views.{most_hits, good_on, small_on, no_cell, cell_or, Capped, claim_on}
use Rattle.counter_cells.specs.Counting.{pins_of, pins_on, is_pair, pair_of, OwnShown}
use Rattle.counter_cells.specs.Steps.{charged, looked, good_pin, unpinned, ticked, glanced, has_heard, taken_cell, claimed_by, held_by, reset_by, opened_by}
use Rattle.counter_cells.specs.InnerSteps.{stray_pin, pinned, stray_unpinned}
use Rattle.counter_cells.specs.Claiming.{Peeked, Reclaimed}
use Rattle.counter_cells.specs.Lawful.{Register, ClockIsGreatestOffer, FindingsHaveCauses}
use Rattle.counter_cells.proofs.Kept.{Rule, Holds}
use Rattle.counter_cells.proofs.Views.{claimed, small_le}
use Rattle.counter_cells.proofs.Charging.{charge_keeps}
use Rattle.counter_cells.proofs.Looking.{look_keeps, one_le}
use Rattle.rate_types.proofs.Sums.{total_one, total_same}
use Rattle.counter_cells.proofs.Gates.{few_pins, open_shown, gate_keeps}
use Rattle.counter_cells.proofs.Pinning.{pinned_keeps}
use Rattle.counter_cells.proofs.Unpinning.{unpin_keeps, unpin_stray_keeps}
use Rattle.counter_cells.proofs.Ticking.{clock_same, tick_clock}
use Rattle.counter_cells.proofs.Findings.{findings_keep, findings_same, pin_noted, held_noted, dropped_le, dropped_stray_le}

pub there : {A : Type 0} (l : List A) (i : ℕ) → i < length l → (a : A) × (get_elem? l i ≡ some a)
there [] i h = absurd (omega arith)
there (x ∷ xs) zero h = (x, refl)
there (x ∷ xs) (suc i) h = there xs i (omega arith)

module _ (ws : List ℕ) (k x : ℕ) where
  pub gates_same : (j : ℕ) → gate_of (set ws (count_at k) x) j ≡ gate_of ws j
  gates_same j = get_or-set_other ws (count_at k) (gate_at j) x 0 (λ e. absurd (omega arith))

  pub counts_same : (j : ℕ) → count_of (set ws (gate_at k) x) j ≡ count_of ws j
  counts_same j = get_or-set_other ws (gate_at k) (count_at j) x 0 (λ e. absurd (omega arith))

  pub count_else : (j : ℕ) → (j ≡ k → ⊥) → count_of (set ws (count_at k) x) j ≡ count_of ws j
  count_else j n = get_or-set_other ws (count_at k) (count_at j) x 0 (λ e. absurd (n (omega arith)))

  pub gate_else : (j : ℕ) → (j ≡ k → ⊥) → gate_of (set ws (gate_at k) x) j ≡ gate_of ws j
  gate_else j n = get_or-set_other ws (gate_at k) (gate_at j) x 0 (λ e. absurd (n (omega arith)))

  pub count_here : count_at k < length ws → count_of (set ws (count_at k) x) k ≡ x
  count_here h = get_or-set_same ws (count_at k) x 0 h

  pub gate_here : gate_at k < length ws → gate_of (set ws (gate_at k) x) k ≡ x
  gate_here h = get_or-set_same ws (gate_at k) x 0 h

-- under a good pin the count is at least what the view knows of the claim
capped_at : (a : Setup) (t : Register) (gate count : ℕ → ℕ) (views : List CellView) → Rule a t gate count views → (id k : ℕ) (v : CellView) → get_elem? views id ≡ some v
    → 1 ≤ good_on k v → Capped (claim_on k v.good) (count k) v
capped_at a t gate count views r id k v at pin =
    let f = r.each id v at in
    let m = f.good k (claim_on k v.good) (claimed k v.good pin) in
    subst (λ c. Capped c (count k) v) m.3 (f.caps k m.0 m.1 m.2)

-- the state after a step on a count, and on a gate
module _ (a : Setup) (t : Register) (ws : List ℕ) (k x : ℕ) (views : List CellView) (long : length ws ≡ words_of (length t.cells)) (count : length t.cells ≡ a.cells) where
  pub on_count : (homes : List ℕ) → Rule a t (gate_of ws) (count_of (set ws (count_at k) x)) views → ClockIsGreatestOffer a (slice_index ws 0) views
      → FindingsHaveCauses a (slice_index ws 0) views → (length (set ws (count_at k) x) ≡ words_of (length t.cells)) × (length t.cells ≡ a.cells)
      × Rule a t (gate_of (set ws (count_at k) x)) (count_of (set ws (count_at k) x)) views × ClockIsGreatestOffer a (slice_index (set ws (count_at k) x) 0) views
      × FindingsHaveCauses a (slice_index (set ws (count_at k) x) 0) views
  on_count homes r c f = (
    length-set ws (count_at k) x ∙ long,
    count,
    subst (λ (g : ℕ → ℕ). Rule a t g (count_of (set ws (count_at k) x)) views) (λ i j. sym (gates_same ws k x j) i) r,
    subst (λ n. ClockIsGreatestOffer a n views) (sym (get_or-set_other ws (count_at k) 0 x 0 (λ e. absurd (omega arith)))) c,
    subst (λ n. FindingsHaveCauses a n views) (sym (get_or-set_other ws (count_at k) 0 x 0 (λ e. absurd (omega arith)))) f,
  )

  pub on_gate : (homes : List ℕ) → Rule a t (gate_of (set ws (gate_at k) x)) (count_of ws) views → ClockIsGreatestOffer a (slice_index ws 0) views
      → FindingsHaveCauses a (slice_index ws 0) views → (length (set ws (gate_at k) x) ≡ words_of (length t.cells)) × (length t.cells ≡ a.cells) × Rule a t (gate_of (set ws
      (gate_at k) x)) (count_of (set ws (gate_at k) x)) views
      × ClockIsGreatestOffer a (slice_index (set ws (gate_at k) x) 0) views × FindingsHaveCauses a (slice_index (set ws (gate_at k) x) 0) views
  on_gate homes r c f = (
    length-set ws (gate_at k) x ∙ long,
    count,
    subst (λ (g : ℕ → ℕ). Rule a t (gate_of (set ws (gate_at k) x)) g views) (λ i j. sym (counts_same ws k x j) i) r,
    subst (λ n. ClockIsGreatestOffer a n views) (sym (get_or-set_other ws (gate_at k) 0 x 0 (λ e. absurd (omega arith)))) c,
    subst (λ n. FindingsHaveCauses a n views) (sym (get_or-set_other ws (gate_at k) 0 x 0 (λ e. absurd (omega arith)))) f,
  )

shut_bit : (b : Bool) → one_if b ≡ 0 → b ≡ false
shut_bit true e = absurd (omega arith)
shut_bit false e = refl

pair_le : (k c : ℕ) (ps : List (ℕ × ℕ)) → total (λ p. one_if (is_pair k c p)) ps ≤ total (λ p. one_if (p.1 == c)) ps
pair_le k c [] = omega arith
pair_le k c (p ∷ ps) = keep (p.0 == k) (p.1 == c) (pair_le k c ps)
  where
    keep : (b d : Bool) → total (λ q. one_if (is_pair k c q)) ps ≤ total (λ q. one_if (q.1 == c)) ps
        → one_if (b && d) + total (λ q. one_if (is_pair k c q)) ps ≤ one_if d + total (λ q. one_if (q.1 == c)) ps
    keep true d r = omega arith
    keep false true r = omega arith
    keep false false r = omega arith

module _ (a : Setup) (slots id k : ℕ) (me : Me ℕ CellView) (within : k < a.cells) where
  pub charges : (h : ℕ) → 1 ≤ small_on k me.0 → (1 ≤ h) × (h ≤ most_hits)
      → Allows (Holds a) slots id me (count_at k) (λ n. (n + h) % 2 ^ 64)
      (λ n w. (w.0 ≡ charged (count_cell (count_at k)) n h me.0) × (w.1 ≡ me.1) × Capped (claim_on (count_cell (count_at k)) me.0.good) n me.0 × (n + h < 2 ^ 64))
  charges h one hits s hold homes at small =
      let t = hold.0 in
      let ws = s.words in
      let n = count_of ws k in
      let new = (n + h) % 2 ^ 64 in
      let c = there t.cells k (omega (arith, hold.2)) in
      let room = (hold.3.cells k c.0 c.1).room in
      let sum : new ≡ n + h = omega (arith, hold.3.few) in
      let rule = charge_keeps a t (gate_of ws) (count_of ws) (count_of (set ws (count_at k) new)) s.views hold.3 id k h me.0 at one hits
      (count_here ws k new (omega (arith, hold.1, hold.2)) ∙ sum) (λ j ne. count_else ws k new j ne) in
      let clock = clock_same a (slice_index ws 0) s.views hold.4 id me.0 (charged k n h me.0) at (refl, refl, refl, refl, refl) in
      let after = on_count a t ws k new (set s.views id (charged k n h me.0)) hold.1 hold.2 [] rule clock
      (findings_same a (slice_index ws 0) (slice_index ws 0) s.views hold.5 (omega arith) id me.0 (charged k n h me.0) at (refl, refl, refl, refl, refl, refl)
      (λ j. omega arith)) in (
        charged k n h me.0,
        keeps,
        tt,
        (t, after.0, after.1, after.2, after.3, after.4),
        (
          ap (λ (i : ℕ). charged i n h me.0) (let e : k ≡ count_cell (count_at k) = omega arith in e),
          refl,
          (let e : k ≡ count_cell (count_at k) = omega arith in subst (λ i. Capped (claim_on i me.0.good) n me.0) e
              (capped_at a t (gate_of ws) (count_of ws) s.views hold.3 id k me.0 at (let u = small_le k me.0.unused in (hold.3.each id me.0 at).under k (omega arith)))),
          omega (arith, hold.3.few),
        ),
      )

  pub looks : 1 ≤ good_on k me.0 → Allows (Holds a) slots id me (count_at k) (λ n. n)
      (λ n w. (w.0 ≡ looked (count_cell (count_at k)) n me.0) × (w.1 ≡ me.1) × Capped (claim_on (count_cell (count_at k)) me.0.good) n me.0)
  looks pin s hold homes at small =
      let t = hold.0 in
      let ws = s.words in
      let n = count_of ws k in
      let rule = look_keeps a t (gate_of ws) (count_of ws) s.views hold.3 id k me.0 at pin in
      let same : (j : ℕ) → count_of ws j ≡ count_of (set ws (count_at k) n) j = λ j. ap (λ (l : List ℕ). count_of l j) (sym (set-get_or ws (count_at k) 0)) in
      let clock = clock_same a (slice_index ws 0) s.views hold.4 id me.0 (looked k n me.0) at (refl, refl, refl, refl, refl) in
      let after = on_count a t ws k n (set s.views id (looked k n me.0)) hold.1 hold.2 []
      (subst (λ (g : ℕ → ℕ). Rule a t (gate_of ws) g (set s.views id (looked k n me.0))) (λ i j. same j i) rule) clock
      (findings_same a (slice_index ws 0) (slice_index ws 0) s.views hold.5 (omega arith) id me.0 (looked k n me.0) at (refl, refl, refl, refl, refl, refl) (λ j. omega arith)) in (
        looked k n me.0,
        keeps,
        tt,
        (t, after.0, after.1, after.2, after.3, after.4),
        (
          ap (λ (i : ℕ). looked i n me.0) (let e : k ≡ count_cell (count_at k) = omega arith in e),
          refl,
          (let e : k ≡ count_cell (count_at k) = omega arith in subst (λ i. Capped (claim_on i me.0.good) n me.0) e
              (capped_at a t (gate_of ws) (count_of ws) s.views hold.3 id k me.0 at pin)),
        ),
      )

  gate_cell_is : k ≡ gate_cell (gate_at k)
  gate_cell_is = omega arith

  -- what a gate shows under the view's own good pins, and where it is closed
  own_shown : (s : State ℕ CellView) (hold : Holds a s) → get_elem? s.views id ≡ some me.0 → OwnShown k me.0 (gate_of s.words k)
  own_shown s hold at =
      let f = hold.3.each id me.0 at in
      let show = open_shown a hold.0 (gate_of s.words) (count_of s.words) s.views hold.3 k in (
        (λ c o. let g = f.good k c o in let x = show g.0 g.1 in (x.0 ∙ ap one_if g.2, x.1 ∙ g.3)),
        (λ c o off same.
            let p = (f.past k c o).1 in
            let x = show p.0 p.1 in
            let fresh = (hold.3.cells k p.0 p.1).fresh (shut_bit p.0.is_open (sym x.0 ∙ off)) p.2 in
            let one = total_one (pair_of p.0.claim) s.views id me.0 at in
            let le = pair_le k c me.0.pairs in
            let e : p.0.claim ≡ c = sym x.1 ∙ same in
            let o' : 1 ≤ pair_of p.0.claim me.0 = subst (λ d. 1 ≤ pair_of d me.0) (sym e) (omega arith) in
            absurd (omega arith)),
      )

  pub pins : (c : ℕ) → (pins_of me.0 < 32) × (1 ≤ length me.0.numbers)
      → Allows (Holds a) slots id me (gate_at k) (λ n. (n + 2) % 2 ^ 64) (λ n w. (w.0 ≡ pinned c (gate_cell (gate_at k)) n me.0) × (w.1 ≡ me.1)
      × OwnShown (gate_cell (gate_at k)) me.0 n)
  pins c able s hold homes at small =
      let t = hold.0 in
      let ws = s.words in
      let n = gate_of ws k in
      let new = (n + 2) % 2 ^ 64 in
      let st = there t.cells k (omega (arith, hold.2)) in
      let word = (hold.3.cells k st.0 st.1).word in
      let few = few_pins a t (gate_of ws) (count_of ws) s.views hold.3 k in
      let low = hold.3.truth.small k st.0 st.1 in
      let bit = one_le st.0.is_open in
      let sum : new ≡ n + 2 = omega arith in
      let rule = pinned_keeps a t (gate_of ws) (gate_of (set ws (gate_at k) new)) (count_of ws) s.views hold.3 id k me.0 at st.0 st.1
      (gate_here ws k new (omega (arith, hold.1, hold.2)) ∙ sum) (λ j ne. gate_else ws k new j ne) able c in
      let clock = clock_same a (slice_index ws 0) s.views hold.4 id me.0 (pinned c k n me.0) at (quiet (shows c n)) in
      let after = on_gate a t ws k new (set s.views id (pinned c k n me.0)) hold.1 hold.2 [] rule clock
      (pin_noted a (slice_index ws 0) s.views hold.5 id me.0 at able.1 c k n) in (
        pinned c k n me.0,
        keeps,
        tt,
        (t, after.0, after.1, after.2, after.3, after.4),
        (
          ap (λ (i : ℕ). pinned c i n me.0) gate_cell_is,
          refl,
          subst
              (λ i. OwnShown i me.0 n) gate_cell_is (own_shown s hold at),
        ),
      )
    where
      quiet : (b : Bool) → let w = cond b (good_pin k c me.0) (stray_pin k (gate_of s.words k) me.0) in
          (w.ticks ≡ me.0.ticks) × (w.numbers ≡ me.0.numbers) × (w.moment ≡ me.0.moment) × (w.unmade ≡ me.0.unmade) × (w.claimer ≡ me.0.claimer)
      quiet true = (refl, refl, refl, refl, refl)
      quiet false = (refl, refl, refl, refl, refl)

  pub unpins : 1 ≤ good_on k me.0 → Allows (Holds a) slots id me (gate_at k) (λ n. (n + (2 ^ 64 - 2)) % 2 ^ 64)
      (λ n w. (w.0 ≡ unpinned (gate_cell (gate_at k)) me.0) × (w.1 ≡ me.1))
  unpins pin s hold homes at small =
      let t = hold.0 in
      let ws = s.words in
      let n = gate_of ws k in
      let new = (n + (2 ^ 64 - 2)) % 2 ^ 64 in
      let st = there t.cells k (omega (arith, hold.2)) in
      let word = (hold.3.cells k st.0 st.1).word in
      let one = total_one (pins_on k) s.views id me.0 at in
      let sum : new + 2 ≡ n = omega arith in
      let rule = unpin_keeps a t (gate_of ws) (gate_of (set ws (gate_at k) new)) (count_of ws) s.views hold.3 id k me.0 at
      (ap (λ i. i + 2) (gate_here ws k new (omega (arith, hold.1, hold.2))) ∙ sum) (λ j ne. gate_else ws k new j ne) pin in
      let clock = clock_same a (slice_index ws 0) s.views hold.4 id me.0 (unpinned k me.0) at (refl, refl, refl, refl, refl) in
      let after = on_gate a t ws k new (set s.views id (unpinned k me.0)) hold.1 hold.2 [] rule clock
      (findings_same a (slice_index ws 0) (slice_index ws 0) s.views hold.5 (omega arith) id me.0 (unpinned k me.0) at (refl, refl, refl, refl, refl, refl)
      (λ j. let d = dropped_le j k me.0.good in omega arith)) in
      (unpinned k me.0, keeps, tt, (t, after.0, after.1, after.2, after.3, after.4), (ap (λ (i : ℕ). unpinned i me.0) gate_cell_is, refl))

  pub unpins_stray : 1 ≤ total (λ j. one_if (j == k)) me.0.stray
      → Allows (Holds a) slots id me (gate_at k) (λ n. (n + (2 ^ 64 - 2)) % 2 ^ 64) (λ n w. (w.0 ≡ stray_unpinned (gate_cell (gate_at k)) me.0) × (w.1 ≡ me.1))
  unpins_stray pin s hold homes at small =
      let t = hold.0 in
      let ws = s.words in
      let n = gate_of ws k in
      let new = (n + (2 ^ 64 - 2)) % 2 ^ 64 in
      let st = there t.cells k (omega (arith, hold.2)) in
      let word = (hold.3.cells k st.0 st.1).word in
      let one = total_one (pins_on k) s.views id me.0 at in
      let sum : new + 2 ≡ n = omega arith in
      let rule = unpin_stray_keeps a t (gate_of ws) (gate_of (set ws (gate_at k) new)) (count_of ws) s.views hold.3 id k me.0 at
      (ap (λ i. i + 2) (gate_here ws k new (omega (arith, hold.1, hold.2))) ∙ sum) (λ j ne. gate_else ws k new j ne) pin in
      let clock = clock_same a (slice_index ws 0) s.views hold.4 id me.0 (stray_unpinned k me.0) at (refl, refl, refl, refl, refl) in
      let after = on_gate a t ws k new (set s.views id (stray_unpinned k me.0)) hold.1 hold.2 [] rule clock
      (findings_same a (slice_index ws 0) (slice_index ws 0) s.views hold.5 (omega arith) id me.0 (stray_unpinned k me.0) at (refl, refl, refl, refl, refl, refl)
      (λ j. let d = dropped_stray_le j k me.0.stray in omega arith)) in
      (stray_unpinned k me.0, keeps, tt, (t, after.0, after.1, after.2, after.3, after.4), (ap (λ (i : ℕ). stray_unpinned i me.0) gate_cell_is, refl))

-- the claimer's steps
get_is : (l : List Cell) (k : ℕ) (s d : Cell) → get_elem? l k ≡ some s → get_or l k d ≡ s
get_is [] k s d e = absurd (some-ne-none s (sym e))
get_is (x ∷ xs) zero s d e = some-injective _ _ e
get_is (x ∷ xs) (suc k) s d e = get_is xs k s d e

pins_there : (n old claim bit pins : ℕ) → n ≡ gate_word claim bit pins → pins_shown n ≡ pins → old ≡ gate_word claim bit 0 → (n ≡ old → ⊥) → 1 ≤ pins_shown n
pins_there n old claim bit zero w p o ne = absurd (ne (omega arith))
pins_there n old claim bit (suc k) w p o ne = omega arith

module _ (a : Setup) (slots id k : ℕ) (me : Me ℕ CellView) (within : k < a.cells) (role : me.0.claimer ≡ true) where
  -- the claimer's cell is that of the state
  own_cell : (s : State ℕ CellView) (hold : Holds a s) → get_elem? s.views id ≡ some me.0 → get_elem? hold.0.cells k ≡ some (cell_or me.0.cells k)
  own_cell s hold at =
      let c = there hold.0.cells k (omega (arith, hold.2)) in
      let mine = (hold.3.each id me.0 at).claimer role in
      c.1 ∙ ap some (sym (ap (λ l. get_or l k no_cell) mine.0 ∙ get_is hold.0.cells k c.0 no_cell c.1))

  pub peeks : Allows (Holds a) slots id me (gate_at k) (λ n. n) (λ n w. Peeked (gate_cell (gate_at k)) me.0 n w.0 × (w.1 ≡ me.1))
  peeks s hold homes at small =
      let shown = open_shown a hold.0 (gate_of s.words) (count_of s.words) s.views hold.3 k (cell_or me.0.cells k) (own_cell s hold at) in
      let e : k ≡ gate_cell (gate_at k) = omega arith in (
        me.0,
        keeps,
        tt,
        subst (λ (s' : State ℕ CellView). Holds a s') (λ i. record {
          words = sym (set-get_or s.words (gate_at k) 0) i;
          homes = s.homes;
          views = sym (set_again s.views id me.0 at) i;
        }) hold,
        (subst (λ i. Peeked i me.0 (gate_of s.words k) me.0) e (refl, shown.0, shown.1), refl),
      )

  on_cells : (t' : Register) (x : ℕ) (s : State ℕ CellView) (w : CellView) (hold : Holds a s) → get_elem? s.views id ≡ some me.0 → length t'.cells ≡ length hold.0.cells
      → (w.ticks ≡ me.0.ticks) × (w.numbers ≡ me.0.numbers) × (w.moment ≡ me.0.moment) × (w.unmade ≡ me.0.unmade) × (w.claimer ≡ me.0.claimer)
      → Rule a t' (gate_of (set s.words (gate_at k) x)) (count_of s.words) (set s.views id w) → FindingsHaveCauses a (slice_index s.words 0) (set s.views id w)
      → Holds a (stepped s (gate_at k) x id me.1 w keeps)
  on_cells t' x s w hold at len same rule found =
      let clock = clock_same a (slice_index s.words 0) s.views hold.4 id me.0 w at same in
      let after = on_gate a t' s.words k x (set s.views id w) (hold.1 ∙ ap words_of (sym len)) (len ∙ hold.2) [] rule clock found in
      (t', after.0, after.1, after.2, after.3, after.4)

  pub opens : let c = cell_or me.0.cells k in c.ever ≡ true → c.is_open ≡ false → c.reset ≡ true
      → Allows (Holds a) slots id me (gate_at k) (λ n. bit_or n 1) (λ n w. (w.0 ≡ opened_by (gate_cell (gate_at k)) me.0) × (w.1 ≡ me.1))
  opens ev off done s hold homes at small =
      let t = hold.0 in
      let ws = s.words in
      let n = gate_of ws k in
      let st = cell_or me.0.cells k in
      let cell = own_cell s hold at in
      let mine = (hold.3.each id me.0 at).claimer role in
      let word = (hold.3.cells k st cell).word in
      let bit : one_if st.is_open ≡ 0 = ap one_if off in
      let sum : bit_or n 1 ≡ n + 1 = ap (λ i. bit_or i 1) (let e : n ≡ (st.claim * 65536 + total (pins_on k) s.views) * 2 ^ 1 = omega arith in e)
      ∙ or_shifted (st.claim * 65536 + total (pins_on k) s.views) 1 1 (lit< tt)
      ∙ (let e : (st.claim * 65536 + total (pins_on k) s.views) * 2 ^ 1 + 1 ≡ n + 1 = omega arith in e) in
      let rule = open_keeps a t (gate_of ws) (gate_of (set ws (gate_at k) (bit_or n 1))) (count_of ws) (count_of ws) s.views hold.3 id k me.0 at role st cell ev off done
      (gate_here ws k (bit_or n 1) (omega (arith, hold.1, hold.2)) ∙ sum) (λ j ne. gate_else ws k (bit_or n 1) j ne) in
      let w : CellView = opened_by k me.0 in
      let is : w ≡ record me.0 { cells = set me.0.cells k (record st { is_open = true }); used_claims = t.used_claims; held = me.0.held } =
      λ i. record me.0 { cells = set me.0.cells k (record st { is_open = true }); used_claims = mine.1 i; held = me.0.held } in (
        w,
        keeps,
        tt,
        on_cells (record { cells = set t.cells k (record st { is_open = true }); used_claims = t.used_claims }) (bit_or n 1) s w hold at
            (length-set t.cells k (record st { is_open = true })) (refl, refl, refl, refl, refl)
            (subst (λ (x : CellView). Rule a (record { cells = set t.cells k (record st { is_open = true }); used_claims = t.used_claims })
            (gate_of (set ws (gate_at k) (bit_or n 1))) (count_of ws) (set s.views id x)) (sym is) rule)
            (findings_same a (slice_index s.words 0) (slice_index s.words 0) s.views hold.5 (omega arith) id me.0 w at (refl, refl, refl, refl, refl, refl) (λ j. omega arith)),
        (ap (λ (i : ℕ). opened_by i me.0) (let e : k ≡ gate_cell (gate_at k) = omega arith in e), refl),
      )

  pub reclaims : (old c : ℕ) → old ≡ gate_word (cell_or me.0.cells k).claim (one_if (cell_or me.0.cells k).is_open) 0 → c < 2 ^ 40 → times c me.0.used_claims ≡ 0
      → Allows (Holds a) slots id me (gate_at k) (λ n. either (n == old) (gate_word c 0 0) n) (λ n w. Reclaimed (gate_cell (gate_at k)) old c me.0 n w.0 × (w.1 ≡ me.1))
  reclaims old c known low new s hold homes at small = pick (ℕ_discrete (gate_of s.words k) old)
    where
      e : k ≡ gate_cell (gate_at k)
      e = omega arith

      pick : Dec (gate_of s.words k ≡ old) → (w : CellView) × (x : Act ℕ) × Valid s.homes me.1 x
          × Holds a (stepped s (gate_at k) (either (gate_of s.words k == old) (gate_word c 0 0) (gate_of s.words k)) id me.1 w x)
          × (Reclaimed (gate_cell (gate_at k)) old c me.0 (gate_of s.words k) w × (carried_after me.1 x ≡ me.1))
      pick (yes d) =
          let t = hold.0 in
          let ws = s.words in
          let st = cell_or me.0.cells k in
          let cell = own_cell s hold at in
          let mine = (hold.3.each id me.0 at).claimer role in
          let word = (hold.3.cells k st cell).word in
          let none : total (pins_on k) s.views ≡ 0 = omega arith in
          let x : either (gate_of ws k == old) (gate_word c 0 0) (gate_of ws k) ≡ gate_word c 0 0 =
          ap (λ b. either b (gate_word c 0 0) (gate_of ws k)) (eq-eqb (gate_of ws k) old d) in
          let rule = reclaim_keeps a t (gate_of ws) (gate_of (set ws (gate_at k) (gate_word c 0 0))) (count_of ws) (count_of ws) s.views hold.3 id k me.0 at role st cell c low
          (ap (λ l. times c l) (sym mine.1) ∙ new) none (gate_here ws k (gate_word c 0 0) (omega (arith, hold.1, hold.2))) (λ j ne. gate_else ws k (gate_word c 0 0) j ne) in
          let w : CellView = claimed_by k c me.0 in
          let is : w ≡ record me.0 { cells = set me.0.cells k (taken_cell c); used_claims = c ∷ t.used_claims; held = me.0.held } =
          λ i. record me.0 { cells = set me.0.cells k (taken_cell c); used_claims = c ∷ mine.1 i; held = me.0.held } in (
            w,
            keeps,
            tt,
            subst (λ n. Holds a (stepped s (gate_at k) n id me.1 w keeps)) (sym x)
                (on_cells (record { cells = set t.cells k (taken_cell c); used_claims = c ∷ t.used_claims }) (gate_word c 0 0) s w hold at (length-set t.cells k (taken_cell c))
                (refl, refl, refl, refl, refl)
                (subst (λ (y : CellView). Rule a (record { cells = set t.cells k (taken_cell c); used_claims = c ∷ t.used_claims })
                (gate_of (set ws (gate_at k) (gate_word c 0 0))) (count_of ws) (set s.views id y)) (sym is) rule)
                (findings_same a (slice_index s.words 0) (slice_index s.words 0) s.views hold.5 (omega arith) id me.0 w at (refl, refl, refl, refl, refl, refl)
                (λ j. omega arith))),
            (subst (λ i. Reclaimed i old c me.0 (gate_of s.words k) w) e ((λ _. refl), (λ no. absurd (no d))), refl),
          )
      pick (no n) =
          let t = hold.0 in
          let ws = s.words in
          let w : CellView = held_by k (pins_shown (gate_of ws k)) me.0 in
          let f = hold.3.each id me.0 at in
          let cell = own_cell s hold at in
          let shown = open_shown a t (gate_of ws) (count_of ws) s.views hold.3 k (cell_or me.0.cells k) cell in
          let word = (hold.3.cells k (cell_or me.0.cells k) cell).word in
          let same : gate_of ws ≡ gate_of (set ws (gate_at k) (gate_of ws k)) = ap gate_of (sym (set-get_or ws (gate_at k) 0)) in
          let x : either (gate_of ws k == old) (gate_word c 0 0) (gate_of ws k) ≡ gate_of ws k =
          ap (λ b. either b (gate_word c 0 0) (gate_of ws k)) (ne_eqb (gate_of ws k) old n) in
          let rule = gate_keeps a t (gate_of ws) (count_of ws) s.views hold.3 (gate_of ws) id me.0 w at refl refl (refl, refl, refl)
          (λ j u d. (hold.3.cells j u d).word ∙ ap (λ m. gate_word u.claim (one_if u.is_open) m) (sym (total_same (pins_on j) s.views id me.0 w at refl)))
          (λ j. omega arith) (λ j u d off ev. refl)
          (record {
            pins = f.pins;
            good = f.good;
            under = f.under;
            once = f.once;
            past = f.past;
            charges = f.charges;
            looks = f.looks;
            idle = f.idle;
            claimer = f.claimer;
            caps = λ i u d o. let p = f.caps i u d o in record { charges = p.charges; looks = p.looks };
          }) in (
            w,
            keeps,
            tt,
            subst (λ m. Holds a (stepped s (gate_at k) m id me.1 w keeps)) (sym x)
                (on_cells t (gate_of ws k) s w hold at refl (refl, refl, refl, refl, refl) (subst (λ (g : ℕ → ℕ). Rule a t g (count_of ws) (set s.views id w)) same rule)
                (held_noted a (slice_index ws 0) s.views hold.5 id me.0 at k (pins_shown (gate_of ws k)) within
                (let p = pins_there (gate_of ws k) old (cell_or me.0.cells k).claim (one_if (cell_or me.0.cells k).is_open) (total (pins_on k) s.views) word shown.2 known n in
                omega arith))),
            (
              subst (λ i. Reclaimed i old c me.0 (gate_of s.words k) (held_by k (pins_shown (gate_of ws k)) me.0)) e (
                (λ y. absurd (n y)),
                (λ _. (
                  refl,
                  pins_there (gate_of ws k) old (cell_or me.0.cells k).claim (one_if (cell_or me.0.cells k).is_open)
                      (total (pins_on k) s.views) word shown.2 known n,
                )),
              ),
              refl,
            ),
          )

  pub resets : let c = cell_or me.0.cells k in c.ever ≡ true → c.is_open ≡ false
      → Allows (Holds a) slots id me (count_at k) (λ _. 0) (λ _ w. (w.0 ≡ reset_by (count_cell (count_at k)) me.0) × (w.1 ≡ me.1))
  resets ev off s hold homes at small =
      let t = hold.0 in
      let ws = s.words in
      let st = cell_or me.0.cells k in
      let cell = own_cell s hold at in
      let mine = (hold.3.each id me.0 at).claimer role in
      let rule = reset_keeps a t (gate_of ws) (gate_of ws) (count_of ws) (count_of (set ws (count_at k) 0)) s.views hold.3 id k me.0 at role st cell ev off
      (count_here ws k 0 (omega (arith, hold.1, hold.2))) (λ j ne. count_else ws k 0 j ne) in
      let t' : Register = record { cells = set t.cells k (record st { reset = true }); used_claims = t.used_claims } in
      let w : CellView = reset_by k me.0 in
      let len : length t'.cells ≡ length t.cells = length-set t.cells k (record st { reset = true }) in
      let is : w ≡ record me.0 { cells = set me.0.cells k (record st { reset = true }); used_claims = t.used_claims; held = me.0.held } =
      λ i. record me.0 { cells = set me.0.cells k (record st { reset = true }); used_claims = mine.1 i; held = me.0.held } in
      let clock = clock_same a (slice_index ws 0) s.views hold.4 id me.0 w at (refl, refl, refl, refl, refl) in
      let after = on_count a t' ws k 0 (set s.views id w) (hold.1 ∙ ap words_of (sym len)) (len ∙ hold.2) []
      (subst (λ (x : CellView). Rule a t' (gate_of ws) (count_of (set ws (count_at k) 0)) (set s.views id x)) (sym is) rule) clock
      (findings_same a (slice_index ws 0) (slice_index ws 0) s.views hold.5 (omega arith) id me.0 w at (refl, refl, refl, refl, refl, refl) (λ j. omega arith)) in
      (w, keeps, tt, (t', after.0, after.1, after.2, after.3, after.4), (ap (λ (i : ℕ). reset_by i me.0) (let e : k ≡ count_cell (count_at k) = omega arith in e), refl))

module _ (a : Setup) (slots id now : ℕ) (me : Me ℕ CellView) where
  pub ticks : 1 ≤ length me.0.numbers → now ≤ 1000000000000 → Allows (Holds a) slots id me 0 (λ n. max n now)
      (λ n w. (w.0 ≡ ticked (max n now) now me.0) × (w.1 ≡ me.1) × (me.0.moment ≤ n) × (n ≤ 1000000000000))
  ticks live low s hold homes at small =
      let t = hold.0 in
      let ws = s.words in
      let n = slice_index ws 0 in
      let new = max n now in
      let w : CellView = ticked (max n now) now me.0 in
      let f = hold.3.each id me.0 at in
      let rule = gate_keeps a t (gate_of ws) (count_of ws) s.views hold.3 (gate_of ws) id me.0 w at refl refl (refl, refl, refl)
      (λ j u d. (hold.3.cells j u d).word ∙ ap (λ m. gate_word u.claim (one_if u.is_open) m) (sym (total_same (pins_on j) s.views id me.0 w at refl)))
      (λ j. omega arith) (λ j u d off ev. refl)
      (record {
        pins = f.pins;
        good = f.good;
        under = f.under;
        once = f.once;
        past = f.past;
        charges = f.charges;
        looks = f.looks;
        idle = f.idle;
        claimer = f.claimer;
        caps = λ i u d o. let p = f.caps i u d o in record { charges = p.charges; looks = p.looks };
      }) in
      let gates : gate_of ws ≡ gate_of (set ws 0 new) = λ i j. sym (get_or-set_other ws 0 (gate_at j) new 0 (λ e. absurd (omega arith))) i in
      let counts : count_of ws ≡ count_of (set ws 0 new) = λ i j. sym (get_or-set_other ws 0 (count_at j) new 0 (λ e. absurd (omega arith))) i in
      let here = get_or-set_same ws 0 new 0 (omega (arith, hold.1)) in
      let found = findings_same a n (slice_index (set ws 0 new) 0) s.views hold.5 (omega arith) id me.0 w at (refl, refl, refl, refl, refl, refl) (λ j. omega arith) in
      let clock = tick_clock a n (slice_index (set ws 0 new) 0) now s.views hold.4 id me.0 at live here low in (
        w,
        keeps,
        tt,
        (t, length-set ws 0 new ∙ hold.1, hold.2, subst (λ (g : (ℕ → ℕ) × (ℕ → ℕ)). Rule a t g.0 g.1 (set s.views id w)) (λ i. (gates i, counts i)) rule, clock, found),
        (refl, refl, (hold.4.each id me.0 at).moment, hold.4.most),
      )

-- a load of the clock: it is a tick where the clock isn't earlier than `now`
module _ (a : Setup) (slots id now : ℕ) (me : Me ℕ CellView) where
  pub glances : 1 ≤ length me.0.numbers → now ≤ 1000000000000 → Allows (Holds a) slots id me 0 (λ n. n)
      (λ n w. (w.0 ≡ glanced n now me.0) × (w.1 ≡ me.1) × (me.0.moment ≤ n) × (n ≤ 1000000000000))
  glances live low s hold homes at small = pick (dec_lt (slice_index s.words 0) now)
    where
      Goal : Type 0
      Goal = (w : CellView) × (x : Act ℕ) × Valid s.homes me.1 x × Holds a (stepped s 0 (slice_index s.words 0) id me.1 w x)
          × ((w ≡ glanced (slice_index s.words 0) now me.0) × (carried_after me.1 x ≡ me.1) × (me.0.moment ≤ slice_index s.words 0) × (slice_index s.words 0 ≤ 1000000000000))

      pick : Dec (slice_index s.words 0 < now) → Goal
      pick (yes d) = (
        me.0,
        keeps,
        tt,
        subst (λ (s' : State ℕ CellView). Holds a s')
            (λ i. record { words = sym (set-get_or s.words 0 0) i; homes = s.homes; views = sym (set_again s.views id me.0 at) i }) hold,
        (
          sym (ap (λ b. cond b me.0 (ticked (slice_index s.words 0) now me.0)) (lt-ltb (slice_index s.words 0) now d)),
          refl,
          (hold.4.each id me.0 at).moment,
          hold.4.most,
        ),
      )
      pick (no n) =
          let x = ticks a slots id now me live low s hold homes at small in
          let e : max (slice_index s.words 0) now ≡ slice_index s.words 0 = omega arith in
          let y : (w : CellView) × (x : Act ℕ) × Valid s.homes me.1 x × Holds a (stepped s 0 (slice_index s.words 0) id me.1 w x)
          × ((w ≡ ticked (slice_index s.words 0) now me.0) × (carried_after me.1 x ≡ me.1) × (me.0.moment ≤ slice_index s.words 0)
          × (slice_index s.words 0 ≤ 1000000000000))
          = subst (λ m. (w : CellView) × (x : Act ℕ) × Valid s.homes me.1 x × Holds a (stepped s 0 m id me.1 w x)
          × ((w ≡ ticked m now me.0) × (carried_after me.1 x ≡ me.1) × (me.0.moment ≤ slice_index s.words 0) × (slice_index s.words 0 ≤ 1000000000000))) e x in (
            y.0,
            y.1,
            y.2,
            y.3,
            (
              y.4.0 ∙ sym (ap (λ b. cond b me.0 (ticked (slice_index s.words 0) now me.0)) (le-ltb (slice_index s.words 0) now (omega arith))),
              y.4.1,
              y.4.2,
              y.4.3,
            ),
          )

-- the claimer hears the clock
module _ (a : Setup) (slots id : ℕ) (me : Me ℕ CellView) where
  pub hears : Allows (Holds a) slots id me 0 (λ n. n) (λ n w. (w.0 ≡ has_heard n me.0) × (w.1 ≡ me.1) × (me.0.heard ≤ n) × (n ≤ 1000000000000))
  hears s hold homes at small =
      let t = hold.0 in
      let ws = s.words in
      let n = slice_index ws 0 in
      let w : CellView = has_heard n me.0 in
      let f = hold.3.each id me.0 at in
      let rule = gate_keeps a t (gate_of ws) (count_of ws) s.views hold.3 (gate_of ws) id me.0 w at refl refl (refl, refl, refl)
      (λ j u d. (hold.3.cells j u d).word ∙ ap (λ m. gate_word u.claim (one_if u.is_open) m) (sym (total_same (pins_on j) s.views id me.0 w at refl)))
      (λ j. omega arith) (λ j u d off ev. refl)
      (record {
        pins = f.pins;
        good = f.good;
        under = f.under;
        once = f.once;
        past = f.past;
        charges = f.charges;
        looks = f.looks;
        idle = f.idle;
        claimer = f.claimer;
        caps = λ i u d o. let p = f.caps i u d o in record { charges = p.charges; looks = p.looks };
      }) in
      let clock = clock_same a n s.views hold.4 id me.0 w at (refl, refl, refl, refl, refl) in
      let g = hold.5 in
      let found = findings_keep a n n s.views g (omega arith) id me.0 w at (λ j. omega arith) (g.noted id me.0 at) (λ j o. inl o) (omega arith) (g.idle id me.0 at) in
      let after : Holds a (record { words = ws; homes = s.homes; views = set s.views id w }) = (t, hold.1, hold.2, rule, clock, found) in (
        w,
        keeps,
        tt,
        subst (λ (l : List ℕ). Holds a (record { words = l; homes = s.homes; views = set s.views id w })) (sym (set-get_or ws 0 0)) after,
        (refl, refl, g.heard id me.0 at, hold.4.most),
      )

pub reclaims_as : (a : Setup) (slots id k : ℕ) (me : Me ℕ CellView) → k < a.cells → me.0.claimer ≡ true → (old c : ℕ)
    → old ≡ gate_word (cell_or me.0.cells k).claim (one_if (cell_or me.0.cells k).is_open) 0 → c < 2 ^ 40 → times c me.0.used_claims ≡ 0
    → Allows (Holds a) slots id me (gate_at k) (λ n. either (n == old) (c * 131072) n)
    (λ n w. Reclaimed (gate_cell (gate_at k)) old (c * 131072 / 131072) me.0 n w.0 × (w.1 ≡ me.1))
reclaims_as a slots id k me within role old c known low new =
    let e : gate_word c 0 0 ≡ c * 131072 = omega arith in
    let d : c ≡ c * 131072 / 131072 = omega arith in
    subst (λ (x : ℕ × ℕ). Allows (Holds a) slots id me (gate_at k) (λ n. either (n == old) x.0 n) (λ n w. Reclaimed (gate_cell (gate_at k)) old x.1 me.0 n w.0 × (w.1 ≡ me.1)))
    (λ i. (e i, d i)) (reclaims a slots id k me within role old c known low new)
