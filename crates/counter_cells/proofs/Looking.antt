-- A look keeps the rule.
use Rattle.std.proofs.Common.{◌≡◌, ℕ, ◌+◌, ◌*◌, ◌≤◌, ◌<◌, ◌==◌, List, [], ◌∷◌, ◌++◌, length, set, Bool, true, false, true≢false, cond, refl, sym, ap, ◌∙◌, subst, arith}
use Rattle.std.specs.Prelude.{ltb}
use native.Mathlib.Decide.{ℕ_discrete, dec_lt}
use mathlib.Core.Option.{some, some-injective}
use lib.ListN.{get_elem?}
use Rattle.counter_cells.specs.declared.view.Charge.{Charge}
use Rattle.counter_cells.specs.declared.view.Cell.{Cell}
use Rattle.counter_cells.specs.declared.view.CellView.{CellView}
use Rattle.counter_cells.specs.declared.setup.Setup.{Setup}
use Rattle.rate_types.specs.Sums.{total, one_if, times}
use Rattle.counter_cells.specs.Gates.{gate_word}
use Rattle.counter_cells.specs.Views.{most_hits, good_on, small_on, claim_on}
use Rattle.counter_cells.specs.Counting.{pins_on, pins_of, unused_on, pair_at, pair_of, charges_of, looks_of}
use Rattle.counter_cells.specs.Steps.{without, looked}
use Rattle.counter_cells.specs.Lawful.{Register}
use Rattle.counter_cells.proofs.Kept.{hits_of, hits_below, charges_at, ViewFits, ViewLawful, Rule, cell_fits}
use Rattle.rate_types.proofs.Sums.{total_set, total_push, total_same, total_le, each_set, cond_yes, cond_no, below_no}
use Rattle.counter_cells.proofs.Sums.{each_push, each_map}
use Rattle.counter_cells.proofs.Views.{without_here, without_else, without_le, claimed, small_le}
use Rattle.counter_cells.proofs.Charging.{is_ever, one_cell, whole_below}

pub total_length : {A : Type 0} (f : A → ℕ) (xs : List A) → ((x : A) → f x ≤ 1) → total f xs ≤ length xs
total_length f [] h = omega arith
total_length f (x ∷ xs) h = let a = h x in let r = total_length f xs h in omega arith

pub one_le : (b : Bool) → one_if b ≤ 1
one_le true = omega arith
one_le false = omega arith

pub live : (k : ℕ) (v : CellView) → 1 ≤ good_on k v → pins_of v ≤ 32 * length v.numbers → 1 ≤ length v.numbers
live k v g p = let l = total_length (λ (q : ℕ × ℕ). one_if (q.0 == k)) v.good (λ q. one_le (q.0 == k)) in omega arith

-- what the charges of all views say is the same where no charge was added
pub lawful_same : (views : List CellView) (id : ℕ) (v w x : CellView) → get_elem? views id ≡ some v → ((f : Charge → ℕ) → total f w.charges ≡ total f v.charges)
    → ViewLawful views x → ViewLawful (set views id w) x
lawful_same views id v w x at same l =
    let sums = λ (c b : ℕ). total_same (hits_below c b) views id v w at (same (λ (y : Charge). cond (y.claim == c) (cond (ltb y.before b) y.hits 0) 0)) in
    record {
      charges = each_map (λ (y : Charge). (1 ≤ y.hits) × (y.before ≡ total (hits_below y.claim y.before) views))
          (λ (y : Charge). (1 ≤ y.hits) × (y.before ≡ total (hits_below y.claim y.before) (set views id w))) x.charges
          (λ y q. (q.0, q.1 ∙ sym (sums y.claim y.before))) l.charges;
      looks = each_map (λ (y : ℕ × ℕ). y.1 ≡ total (hits_below y.0 y.1) views) (λ (y : ℕ × ℕ). y.1 ≡ total (hits_below y.0 y.1) (set views id w)) x.looks
          (λ y q. q ∙ sym (sums y.0 y.1)) l.looks;
    }

module _ (a : Setup) (t : Register) (gate count : ℕ → ℕ) (views : List CellView) (r : Rule a t gate count views) (id k : ℕ) (v : CellView) (at : get_elem? views id ≡ some v)
    (pin : 1 ≤ good_on k v) where
  abbrev W : CellView
  W = looked k (count k) v

  abbrev C : ℕ
  C = claim_on k v.good

  mine : (st : Cell) × (get_elem? t.cells k ≡ some st) × (st.is_open ≡ true) × (st.claim ≡ C) × (1 ≤ pair_at k C v)
  mine = (r.each id v at).good k C (claimed k v.good pin)

  small_here : small_on k W ≡ one_if (ltb (count k) 4294967296)
  small_here = let z = small_le k (without k v.unused) in let y = without_here k v.unused in let x = cond_yes k k (one_if (ltb (count k) 4294967296)) 0 refl in omega arith

  small_else : (j : ℕ) → (j ≡ k → ⊥) → small_on j W ≡ small_on j v
  small_else j n =
      let y = without_else (λ p. cond (p.0 == j) (one_if (ltb p.1 4294967296)) 0) k v.unused (λ p e. cond_no p.0 j (one_if (ltb p.1 4294967296)) 0 (λ s. n (sym s ∙ e))) in
      let x = cond_no k j (one_if (ltb (count k) 4294967296)) 0 (λ s. n (sym s)) in
      omega arith

  unused_else : (j : ℕ) → (j ≡ k → ⊥) → unused_on j W ≤ unused_on j v
  unused_else j n = let y = without_le (λ p. one_if (p.0 == j)) k v.unused in let x = cond_no k j 1 0 (λ s. n (sym s)) in omega arith

  unused_here : unused_on k W ≡ 1
  unused_here = let y = without_here k v.unused in let x = cond_yes k k 1 0 refl in omega arith

  -- no more unused looks than passes
  few_looks : total (small_on k) (set views id W) ≤ a.passes
  few_looks =
      let le = total_le (small_on k) (λ (x : CellView). length x.numbers + x.unmade) (set views id W)
      (each_set (λ (x : CellView). small_on k x ≤ length x.numbers + x.unmade) views id W
      (λ j x _ e. let o = (r.each j x e).once k in let s = small_le k x.unused in omega arith)
      (let l = live k v pin (r.each id v at).pins.1 in let s = small_le k W.unused in let u = unused_here in omega arith)) in
      let p = total_same (λ (x : CellView). length x.numbers + x.unmade) views id v W at refl in
      omega (arith, r.parts)

  grows : (f : (ℕ × ℕ) → ℕ) → total (λ (u : CellView). total f u.looks) (set views id W) ≡ total (λ (u : CellView). total f u.looks) views + f (C, count k)
  grows f = omega (arith, total_set (λ (u : CellView). total f u.looks) views id v W at, total_push f v.looks (C, count k))

  room_here : Dec (count k < 4294967296) → total (small_on k) (set views id W) ≤ a.passes
      → total (small_on k) (set views id W) + small_on k v ≡ total (small_on k) views + small_on k W → count k + most_hits * total (small_on k) views ≤ most_hits * (1 + a.passes)
      → count k + most_hits * total (small_on k) (set views id W) ≤ most_hits * (1 + a.passes)
  room_here (yes d) few s m = omega arith
  room_here (no d) few s m = let z = small_here in let y = below_no (count k) 4294967296 1 0 (omega arith) in omega arith

  cell_new : (j : ℕ) (u : Cell) → get_elem? t.cells j ≡ some u → Dec (j ≡ k) → cell_fits a.passes u (gate j) (count j) (set views id W) j
  cell_new j u e d =
      let f = r.cells j u e in
      record {
        word = f.word ∙ ap (λ n. gate_word u.claim (one_if u.is_open) n) (sym (total_same (pins_on j) views id v W at refl));
        never = f.never;
        sum = λ opn. f.sum opn ∙ sym (total_same (hits_of u.claim) views id v W at refl);
        fresh = λ off ev.
            let s = f.fresh off ev in
            let g = grows (λ (x : ℕ × ℕ). one_if (x.0 == u.claim)) in
            let y = cond_no C u.claim 1 0 (λ same. shut off ev same d) in
            (total_same (charges_of u.claim) views id v W at refl ∙ s.0, omega arith, total_same (pair_of u.claim) views id v W at refl ∙ s.2);
        zeroed = f.zeroed;
        room = room d f.room;
      }
    where
      shut : u.is_open ≡ false → u.ever ≡ true → C ≡ u.claim → Dec (j ≡ k) → ⊥
      shut off ev same (yes e') = true≢false (sym (ap (λ (s : Cell). s.is_open) (some-injective _ _ (sym e ∙ ap (λ i. get_elem? t.cells i) e' ∙ mine.1)) ∙ mine.2) ∙ off)
      shut off ev same (no n) = n (one_cell a t gate count views r k j mine.0 u mine.1 e mine.2 ev (sym same ∙ sym mine.3))

      room : Dec (j ≡ k) → count j + most_hits * total (small_on j) views ≤ most_hits * (1 + a.passes)
          → count j + most_hits * total (small_on j) (set views id W) ≤ most_hits * (1 + a.passes)
      room (yes e') m = subst (λ i. count i + most_hits * total (small_on i) (set views id W) ≤ most_hits * (1 + a.passes)) (sym e')
          (room_here (dec_lt (count k) 4294967296) few_looks (total_set (small_on k) views id v W at)
          (subst (λ i. count i + most_hits * total (small_on i) views ≤ most_hits * (1 + a.passes)) e' m))
      room (no n) m = let s = total_same (small_on j) views id v W at (small_else j n) in omega arith

  fits_mine : ViewFits t count W
  fits_mine =
      let f = r.each id v at in
      let l = live k v pin f.pins.1 in
      record {
        pins = f.pins;
        good = f.good;
        under = λ j o. under_now j (ℕ_discrete j k) o (f.under j);
        once = λ j. once_now j (ℕ_discrete j k) (f.once j) l;
        past = f.past;
        charges = f.charges;
        looks = λ d o. claims_used_now d (total_push (λ (x : ℕ × ℕ). one_if (x.0 == d)) v.looks (C, count k)) o (ℕ_discrete C d) (f.looks d);
        idle = λ _ z. absurd (omega arith);
        claimer = f.claimer;
        caps = λ j u e opn.
            let p = f.caps j u e opn in
            record { charges = p.charges; looks = each_push (λ (y : ℕ × ℕ). y.0 ≡ u.claim → y.1 ≤ count j) v.looks (C, count k) p.looks (λ s. cap j u e opn (ℕ_discrete j k) s) };
      }
    where
      under_now : (j : ℕ) → Dec (j ≡ k) → 1 ≤ unused_on j W → (1 ≤ unused_on j v → 1 ≤ good_on j v) → 1 ≤ good_on j v
      under_now j (yes e) o f = subst (λ i. 1 ≤ good_on i v) (sym e) pin
      under_now j (no n) o f = f (let u = unused_else j n in omega arith)

      once_now : (j : ℕ) → Dec (j ≡ k) → (unused_on j v ≤ 1) × (unused_on j v ≤ length v.numbers) → 1 ≤ length v.numbers → (unused_on j W ≤ 1)
          × (unused_on j W ≤ length v.numbers)
      once_now j (yes e) f l = let u : unused_on j W ≡ 1 = ap (λ i. unused_on i W) e ∙ unused_here in (omega arith, omega arith)
      once_now j (no n) f l = let u = unused_else j n in (omega arith, omega arith)

      claims_used_now : (d : ℕ) → total (λ (x : ℕ × ℕ). one_if (x.0 == d)) (v.looks ++ (C, count k) ∷ []) ≡ looks_of d v + one_if (C == d)
          → 1 ≤ total (λ (x : ℕ × ℕ). one_if (x.0 == d)) (v.looks ++ (C, count k) ∷ []) → Dec (C ≡ d) → (1 ≤ looks_of d v → 1 ≤ times d t.used_claims) → 1 ≤ times d t.used_claims
      claims_used_now d g o (yes e) f = subst (λ i. 1 ≤ times i t.used_claims) e ((r.each id v at).past k C mine.4).0
      claims_used_now d g o (no n) f = let z = cond_no C d 1 0 n in f (omega arith)

      cap : (j : ℕ) (u : Cell) → get_elem? t.cells j ≡ some u → u.is_open ≡ true → Dec (j ≡ k) → C ≡ u.claim → count k ≤ count j
      cap j u e opn (yes d) s = let x : count j ≡ count k = ap count d in omega arith
      cap j u e opn (no n) s = absurd (n (one_cell a t gate count views r k j mine.0 u mine.1 e mine.2 (is_ever a t gate count views r j u e opn) (sym s ∙ sym mine.3)))

  pub look_keeps : Rule a t gate count (set views id W)
  look_keeps =
      let ls = λ (j : ℕ) (x : CellView) (e : get_elem? views j ≡ some x). lawful_same views id v W x at (λ f. refl) (r.lawful j x e) in
      let m = ls id v at in
      record {
        truth = r.truth;
        cells = λ j u e. cell_new j u e (ℕ_discrete j k);
        each = each_set (ViewFits t count) views id W (λ j x _ e. r.each j x e) fits_mine;
        once = λ c b. let s = total_same (charges_at c b) views id v W at refl in let o = r.once c b in omega arith;
        lawful = each_set (ViewLawful (set views id W)) views id W (λ j x _ e. ls j x e)
            (record {
              charges = m.charges;
              looks = each_push (λ (y : ℕ × ℕ). y.1 ≡ total (hits_below y.0 y.1) (set views id W)) v.looks (C, count k) m.looks
                  (whole_below a t gate count views r k mine.0 mine.1 mine.2 ∙ ap (λ d. total (hits_below d (count k)) views) mine.3
                  ∙ sym (total_same (hits_below C (count k)) views id v W at refl));
            });
        claimer = total_same (λ (x : CellView). one_if x.claimer) views id v W at refl ∙ r.claimer;
        parts = total_same (λ (x : CellView). length x.numbers + x.unmade) views id v W at refl ∙ r.parts;
        few = r.few;
      }
