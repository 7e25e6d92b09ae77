-- A pin taken keeps the rule.
use Rattle.std.proofs.Common.{◌≡◌, ℕ, ◌+◌, ◌/◌, ◌%◌, ◌≤◌, ◌<◌, ◌==◌, ◌&&◌, List, length, set, Bool, true, false, true≢false, cond, refl, sym, ap, ◌∙◌, subst, arith}
use Rattle.std.proofs.lemmas.Bool.Decides.{nat_tests}
use native.Mathlib.Decide.{ℕ_discrete}
use mathlib.Core.Option.{some, some-injective}
use lib.ListN.{get_elem?}
use Rattle.counter_cells.specs.declared.view.Cell.{Cell}
use Rattle.counter_cells.specs.declared.view.CellView.{CellView}
use Rattle.counter_cells.specs.declared.setup.Setup.{Setup}
use Rattle.rate_types.specs.Sums.{total, one_if, times}
use Rattle.counter_cells.specs.Gates.{gate_word, shows}
use Rattle.counter_cells.specs.Counting.{is_pair, good_at, pins_on, pins_of, pair_at}
use Rattle.counter_cells.specs.Steps.{good_pin}
use Rattle.counter_cells.specs.InnerSteps.{stray_pin, pinned}
use Rattle.counter_cells.specs.Lawful.{Register}
use Rattle.counter_cells.proofs.Kept.{Rule}
use Rattle.rate_types.proofs.Sums.{total_set, cond_yes, cond_no}
use Rattle.counter_cells.proofs.Charging.{is_ever, one_cell}
use Rattle.counter_cells.proofs.Gates.{open_shown, gate_keeps}

both_true : (b c : Bool) → (b && c) ≡ true → (b ≡ true) × (c ≡ true)
both_true true true e = (refl, refl)
both_true true false e = absurd (true≢false (sym e))
both_true false c e = absurd (true≢false (sym e))

pair_is : (j d : ℕ) (p : ℕ × ℕ) → is_pair j d p ≡ true → (p.0 ≡ j) × (p.1 ≡ d)
pair_is j d p e = let b = both_true (p.0 == j) (p.1 == d) e in let x = b.0 in let y = b.1 in (grind (arith, nat_tests), grind (arith, nat_tests))

opened : (b : Bool) → one_if b ≡ 1 → b ≡ true
opened true e = refl
opened false e = absurd (omega arith)

module _ (a : Setup) (t : Register) (gate gate' count : ℕ → ℕ) (views : List CellView) (r : Rule a t gate count views) (id k : ℕ) (v : CellView)
    (at : get_elem? views id ≡ some v) (st : Cell) (cell : get_elem? t.cells k ≡ some st) (here : gate' k ≡ gate k + 2) (else : (j : ℕ) → (j ≡ k → ⊥) → gate' j ≡ gate j)
    (able : (pins_of v < 32) × (1 ≤ length v.numbers)) where
  -- a gate's word after one pin more
  word_more : (w : CellView) → ((j : ℕ) → pins_on j w ≡ pins_on j v + one_if (k == j)) → (j : ℕ) (u : Cell) → get_elem? t.cells j ≡ some u
      → gate' j ≡ gate_word u.claim (one_if u.is_open) (total (pins_on j) (set views id w))
  word_more w more j u e = pick (ℕ_discrete j k) (r.cells j u e).word (total_set (pins_on j) views id v w at) (more j)
    where
      pick : Dec (j ≡ k) → gate j ≡ gate_word u.claim (one_if u.is_open) (total (pins_on j) views)
          → total (pins_on j) (set views id w) + pins_on j v ≡ total (pins_on j) views + pins_on j w → pins_on j w ≡ pins_on j v + one_if (k == j)
          → gate' j ≡ gate_word u.claim (one_if u.is_open) (total (pins_on j) (set views id w))
      pick (yes d) f s m = let g : gate' j ≡ gate j + 2 = ap gate' d ∙ here ∙ sym (ap (λ i. gate i + 2) d) in let y = cond_yes k j 1 0 (sym d) in omega arith
      pick (no n) f s m = let g = else j n in let y = cond_no k j 1 0 (λ q. n (sym q)) in omega arith

  pub stray_keeps : Rule a t gate' count (set views id (stray_pin k (gate k) v))
  stray_keeps =
      let f = r.each id v at in
      gate_keeps a t gate count views r gate' id v (stray_pin k (gate k) v) at refl refl (refl, refl, refl)
      (word_more (stray_pin k (gate k) v) (λ j. omega arith))
      (λ j. omega arith)
      (λ j u e off ev. refl)
      (record {
        pins = (omega arith, omega arith);
        good = f.good;
        under = f.under;
        once = f.once;
        past = f.past;
        charges = f.charges;
        looks = f.looks;
        idle = f.idle;
        claimer = f.claimer;
        caps = λ i u e o. let p = f.caps i u e o in record { charges = p.charges; looks = p.looks };
      })

  pub pin_keeps : (c : ℕ) → st.is_open ≡ true → st.claim ≡ c → Rule a t gate' count (set views id (good_pin k c v))
  pin_keeps c opn claim =
      let f = r.each id v at in
      let ever = is_ever a t gate count views r k st cell opn in
      gate_keeps a t gate count views r gate' id v (good_pin k c v) at refl refl (refl, refl, refl)
      (word_more (good_pin k c v) (λ j. omega arith))
      (λ j. omega arith)
      (λ j u e off ev. let y = cond_no c u.claim 1 0 (λ s. true≢false (sym opn ∙ shut j u e ev (claim ∙ s) off)) in omega arith)
      (record {
        pins = (omega arith, omega arith);
        good = λ j d o. new_good j d (is_pair j d (k, c)) refl o (f.good j d);
        under = λ j o. let x = f.under j o in omega arith;
        once = f.once;
        past = λ j d o. new_past j d ever (is_pair j d (k, c)) refl o (f.past j d);
        charges = f.charges;
        looks = f.looks;
        idle = f.idle;
        claimer = f.claimer;
        caps = λ i u e o. let p = f.caps i u e o in record { charges = p.charges; looks = p.looks };
      })
    where
      shut : (j : ℕ) (u : Cell) → get_elem? t.cells j ≡ some u → u.ever ≡ true → st.claim ≡ u.claim → u.is_open ≡ false → st.is_open ≡ false
      shut j u e ev same off =
          let d = one_cell a t gate count views r k j st u cell e opn ev (sym same) in
          ap (λ (s : Cell). s.is_open) (some-injective _ _ (sym cell ∙ ap (λ i. get_elem? t.cells i) (sym d) ∙ e)) ∙ off

      new_good : (j d : ℕ) (b : Bool) → is_pair j d (k, c) ≡ b → 1 ≤ one_if (is_pair j d (k, c)) + good_at j d v
          → (1 ≤ good_at j d v → (s : Cell) × (get_elem? t.cells j ≡ some s) × (s.is_open ≡ true) × (s.claim ≡ d) × (1 ≤ pair_at j d v)) → (s : Cell)
          × (get_elem? t.cells j ≡ some s) × (s.is_open ≡ true) × (s.claim ≡ d) × (1 ≤ one_if (is_pair j d (k, c)) + pair_at j d v)
      new_good j d true is o f = let p = pair_is j d (k, c) is in let y = ap one_if is in (st, ap (λ i. get_elem? t.cells i) (sym p.0) ∙ cell, opn, claim ∙ p.1, omega arith)
      new_good j d false is o f = let y = ap one_if is in let g = f (omega arith) in (g.0, g.1, g.2, g.3, (let z = g.4 in omega arith))

      new_past : (j d : ℕ) → st.ever ≡ true → (b : Bool) → is_pair j d (k, c) ≡ b → 1 ≤ one_if (is_pair j d (k, c)) + pair_at j d v
          → (1 ≤ pair_at j d v → (1 ≤ times d t.used_claims) × ((s : Cell) × (get_elem? t.cells j ≡ some s) × (s.ever ≡ true))) → (1 ≤ times d t.used_claims)
          × ((s : Cell) × (get_elem? t.cells j ≡ some s) × (s.ever ≡ true))
      new_past j d ever true is o f =
          let p = pair_is j d (k, c) is in (
            subst (λ i. 1 ≤ times i t.used_claims) (claim ∙ p.1) (r.truth.used_claims k st cell ever),
            (st, ap (λ i. get_elem? t.cells i) (sym p.0) ∙ cell, ever),
          )
      new_past j d ever false is o f = let y = ap one_if is in f (omega arith)

  pub pinned_keeps : (c : ℕ) → Rule a t gate' count (set views id (pinned c k (gate k) v))
  pinned_keeps c = pick (shows c (gate k)) refl
    where
      pick : (b : Bool) → shows c (gate k) ≡ b → Rule a t gate' count (set views id (cond b (good_pin k c v) (stray_pin k (gate k) v)))
      pick true is =
          let b = both_true (gate k % 2 == 1) (gate k / 131072 == c) is in
          let x = b.0 in
          let y = b.1 in
          let one : gate k % 2 ≡ 1 = grind (arith, nat_tests) in
          let same : gate k / 131072 ≡ c = grind (arith, nat_tests) in
          let s = open_shown a t gate count views r k st cell in
          pin_keeps c (opened st.is_open (sym s.0 ∙ one)) (sym s.1 ∙ same)
      pick false is = stray_keeps
