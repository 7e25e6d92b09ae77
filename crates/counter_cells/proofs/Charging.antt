-- A charge keeps the rule.
use Rattle.std.proofs.Common.{◌≡◌, ℕ, ◌+◌, ◌≤◌, ◌==◌, List, [], ◌∷◌, ◌++◌, length, set, Bool, true, false, true≢false, cond, refl, sym, ap, ◌∙◌, subst, arith}
use Rattle.std.specs.Prelude.{ltb}
use native.Mathlib.Decide.{ℕ_discrete}
use mathlib.Core.Option.{some, some-injective}
use lib.ListN.{get_elem?}
use Rattle.counter_cells.specs.declared.view.Charge.{Charge}
use Rattle.counter_cells.specs.declared.view.Cell.{Cell}
use Rattle.counter_cells.specs.declared.view.CellView.{CellView}
use Rattle.counter_cells.specs.declared.setup.Setup.{Setup}
use Rattle.rate_types.specs.Sums.{total, one_if, times}
use Rattle.counter_cells.specs.Gates.{gate_word}
use Rattle.counter_cells.specs.Views.{most_hits, small_on, claim_on, Capped}
use Rattle.counter_cells.specs.Counting.{pins_on, unused_on, pair_at, pair_of, charges_of, looks_of}
use Rattle.counter_cells.specs.Steps.{without, charged}
use Rattle.counter_cells.specs.Lawful.{Register}
use Rattle.counter_cells.proofs.Kept.{hits_of, hits_below, charges_at, ViewFits, ViewLawful, Rule, cell_fits}
use Rattle.rate_types.proofs.Sums.{total_set, total_push, total_same, total_eq, total_none, each_set, cond_yes, cond_no, below_no}
use Rattle.counter_cells.proofs.Sums.{each_push, each_map, each_map2}
use Rattle.counter_cells.proofs.Views.{without_here, without_else, without_le, claimed, small_le, none_there, all_below}

ever_open : (st : Cell) → (st.ever ≡ false → (st.is_open ≡ false) × (st.claim ≡ 0)) → st.is_open ≡ true → (b : Bool) → st.ever ≡ b → st.ever ≡ true
ever_open st never opn true e = e
ever_open st never opn false e = absurd (true≢false (sym opn ∙ (never e).0))

module _ (a : Setup) (t : Register) (gate count : ℕ → ℕ) (views : List CellView) (r : Rule a t gate count views) where
  pub is_ever : (k : ℕ) (st : Cell) → get_elem? t.cells k ≡ some st → st.is_open ≡ true → st.ever ≡ true
  is_ever k st at opn = ever_open st (r.cells k st at).never opn st.ever refl

  -- one cell that is open has the claim
  pub one_cell : (k j : ℕ) (st u : Cell) → get_elem? t.cells k ≡ some st → get_elem? t.cells j ≡ some u → st.is_open ≡ true → u.ever ≡ true → u.claim ≡ st.claim → j ≡ k
  one_cell k j st u at at' opn ever same = r.truth.apart j k u st at' at ever (is_ever k st at opn) same

  -- the good pin under an unused look
  pub cell_under : (k id : ℕ) (v : CellView) → get_elem? views id ≡ some v → 1 ≤ unused_on k v → (st : Cell) × (get_elem? t.cells k ≡ some st) × (st.is_open ≡ true)
      × (st.claim ≡ claim_on k v.good) × (1 ≤ pair_at k (claim_on k v.good) v)
  cell_under k id v at one = (r.each id v at).good k (claim_on k v.good) (claimed k v.good ((r.each id v at).under k one))

  pub none_at : (k : ℕ) (st : Cell) → get_elem? t.cells k ≡ some st → st.is_open ≡ true → total (charges_at st.claim (count k)) views ≡ 0
  none_at k st at opn = total_none (charges_at st.claim (count k)) views
      (λ j u e. none_there st.claim (count k) u.charges ((r.each j u e).caps k st at opn).charges
      (each_map (λ (x : Charge). (1 ≤ x.hits) × (x.before ≡ total (hits_below x.claim x.before) views)) (λ (x : Charge). 1 ≤ x.hits) u.charges (λ x p. p.0)
      (r.lawful j u e).charges))

  pub whole_below : (k : ℕ) (st : Cell) → get_elem? t.cells k ≡ some st → st.is_open ≡ true → count k ≡ total (hits_below st.claim (count k)) views
  whole_below k st at opn = (r.cells k st at).sum opn ∙ sym (total_eq (hits_below st.claim (count k)) (hits_of st.claim) views
      (λ j u e. all_below st.claim (count k) u.charges ((r.each j u e).caps k st at opn).charges
      (each_map (λ (x : Charge). (1 ≤ x.hits) × (x.before ≡ total (hits_below x.claim x.before) views)) (λ (x : Charge). 1 ≤ x.hits) u.charges (λ x p. p.0)
      (r.lawful j u e).charges)))

module _ (a : Setup) (t : Register) (gate count count' : ℕ → ℕ) (views : List CellView) (r : Rule a t gate count views) (id k h : ℕ) (v : CellView)
    (at : get_elem? views id ≡ some v) (one : 1 ≤ small_on k v) (hits : (1 ≤ h) × (h ≤ most_hits)) (here : count' k ≡ count k + h)
    (else : (j : ℕ) → (j ≡ k → ⊥) → count' j ≡ count j) where
  abbrev W : CellView
  W = charged k (count k) h v

  abbrev C : ℕ
  C = claim_on k v.good

  abbrev new : Charge
  new = record { claim = claim_on k v.good; before = count k; hits = h }

  mine : (st : Cell) × (get_elem? t.cells k ≡ some st) × (st.is_open ≡ true) × (st.claim ≡ C) × (1 ≤ pair_at k C v)
  mine = cell_under a t gate count views r k id v at (let s = small_le k v.unused in omega arith)

  -- a sum over charges grows by the new one
  grows : (f : Charge → ℕ) → total (λ (u : CellView). total f u.charges) (set views id W) ≡ total (λ (u : CellView). total f u.charges) views + f new
  grows f = omega (arith, total_set (λ (u : CellView). total f u.charges) views id v W at, total_push f v.charges new)

  small_here : small_on k W ≡ 0
  small_here = omega (arith, small_le k (without k v.unused), without_here k v.unused)

  small_else : (j : ℕ) → (j ≡ k → ⊥) → small_on j W ≡ small_on j v
  small_else j n = without_else (λ p. cond (p.0 == j) (one_if (ltb p.1 4294967296)) 0) k v.unused (λ p e. cond_no p.0 j (one_if (ltb p.1 4294967296)) 0 (λ s. n (sym s ∙ e)))

  cell_new : (j : ℕ) (u : Cell) → get_elem? t.cells j ≡ some u → Dec (j ≡ k) → cell_fits a.passes u (gate j) (count' j) (set views id W) j
  cell_new j u e (yes d) =
      let f = r.cells j u e in
      let same : u ≡ mine.0 = some-injective _ _ (sym e ∙ ap (λ i. get_elem? t.cells i) d ∙ mine.1) in
      let opn : u.is_open ≡ true = ap (λ (s : Cell). s.is_open) same ∙ mine.2 in
      let claim : C ≡ u.claim = sym mine.3 ∙ sym (ap (λ (s : Cell). s.claim) same) in
      let now : count' j ≡ count j + h = ap count' d ∙ here ∙ sym (ap (λ i. count i + h) d) in
      record {
        word = f.word ∙ ap (λ n. gate_word u.claim (one_if u.is_open) n) (sym (total_same (pins_on j) views id v W at refl));
        never = f.never;
        sum = λ _. let s = f.sum opn in let g = grows (λ (x : Charge). cond (x.claim == u.claim) x.hits 0) in let y = cond_yes C u.claim h 0 claim in omega arith;
        fresh = λ off. absurd (true≢false (sym opn ∙ off));
        zeroed = λ off. absurd (true≢false (sym opn ∙ off));
        room =
            let m = f.room in
            let s = total_set (small_on j) views id v W at in
            let z : small_on j W ≡ 0 = ap (λ i. small_on i W) d ∙ small_here in
            let o : 1 ≤ small_on j v = subst (λ i. 1 ≤ small_on i v) (sym d) one in
            omega arith;
      }
  cell_new j u e (no n) =
      let f = r.cells j u e in
      let apart : u.ever ≡ true → C ≡ u.claim → ⊥ = λ ev s. n (one_cell a t gate count views r k j mine.0 u mine.1 e mine.2 ev (sym s ∙ sym mine.3)) in
      let now : count' j ≡ count j = else j n in
      record {
        word = f.word ∙ ap (λ n. gate_word u.claim (one_if u.is_open) n) (sym (total_same (pins_on j) views id v W at refl));
        never = f.never;
        sum = λ opn. let s = f.sum opn in let g = grows (λ (x : Charge). cond (x.claim == u.claim) x.hits 0) in
            let y = cond_no C u.claim h 0 (apart (is_ever a t gate count views r j u e opn)) in omega arith;
        fresh = λ off ev.
            let s = f.fresh off ev in
            let g = grows (λ (x : Charge). one_if (x.claim == u.claim)) in
            let y = cond_no C u.claim 1 0 (apart ev) in
            (omega arith, total_same (looks_of u.claim) views id v W at refl ∙ s.1, total_same (pair_of u.claim) views id v W at refl ∙ s.2);
        zeroed = λ off ev m. now ∙ f.zeroed off ev m;
        room = let m = f.room in let s = total_set (small_on j) views id v W at in let z = small_else j n in omega arith;
      }

  old_caps : (j : ℕ) (u : Cell) (x : CellView) → get_elem? t.cells j ≡ some u → u.is_open ≡ true → Capped u.claim (count j) x → Dec (j ≡ k) → Capped u.claim (count' j) x
  old_caps j u x e opn p (yes d) =
      let now : count' j ≡ count j + h = ap count' d ∙ here ∙ sym (ap (λ i. count i + h) d) in
      record {
        charges = each_map (λ (y : Charge). y.claim ≡ u.claim → y.before + y.hits ≤ count j) (λ (y : Charge). y.claim ≡ u.claim → y.before + y.hits ≤ count' j) x.charges
            (λ y l s. let m = l s in omega arith) p.charges;
        looks = each_map (λ (y : ℕ × ℕ). y.0 ≡ u.claim → y.1 ≤ count j) (λ (y : ℕ × ℕ). y.0 ≡ u.claim → y.1 ≤ count' j) x.looks (λ y l s. let m = l s in omega arith) p.looks;
      }
  old_caps j u x e opn p (no n) = subst (λ m. Capped u.claim m x) (sym (else j n)) p

  new_cap : (j : ℕ) (u : Cell) → get_elem? t.cells j ≡ some u → u.is_open ≡ true → Dec (j ≡ k) → C ≡ u.claim → count k + h ≤ count' j
  new_cap j u e opn (yes d) s = let now : count' j ≡ count k + h = ap count' d ∙ here in omega arith
  new_cap j u e opn (no n) s = absurd (n (one_cell a t gate count views r k j mine.0 u mine.1 e mine.2 (is_ever a t gate count views r j u e opn) (sym s ∙ sym mine.3)))

  claims_used_here : 1 ≤ times C t.used_claims
  claims_used_here = ((r.each id v at).past k C mine.4).0

  fits_other : (j : ℕ) (x : CellView) → (j ≡ id → ⊥) → get_elem? views j ≡ some x → ViewFits t count' x
  fits_other j x n e =
      let f = r.each j x e in
      record {
        pins = f.pins;
        good = f.good;
        under = f.under;
        once = f.once;
        past = f.past;
        charges = f.charges;
        looks = f.looks;
        idle = f.idle;
        claimer = f.claimer;
        caps = λ i u d opn. old_caps i u x d opn (f.caps i u d opn) (ℕ_discrete i k);
      }

  fits_mine : ViewFits t count' W
  fits_mine =
      let f = r.each id v at in
      record {
        pins = f.pins;
        good = f.good;
        under = λ j o. f.under j (let l = without_le (λ p. one_if (p.0 == j)) k v.unused in omega arith);
        once = λ j. let l = without_le (λ p. one_if (p.0 == j)) k v.unused in let m = f.once j in (omega arith, omega arith);
        past = f.past;
        charges = λ d o. claims_used_now d (total_push (λ (x : Charge). one_if (x.claim == d)) v.charges new) o (ℕ_discrete C d) (f.charges d);
        looks = f.looks;
        idle = λ _ z. absurd (let o = f.once k in let s = small_le k v.unused in let q = o.1 in omega arith);
        claimer = f.claimer;
        caps = λ j u e opn.
            let p = old_caps j u v e opn (f.caps j u e opn) (ℕ_discrete j k) in
            record {
              charges = each_push (λ (y : Charge). y.claim ≡ u.claim → y.before + y.hits ≤ count' j) v.charges new p.charges (λ s. new_cap j u e opn (ℕ_discrete j k) s);
              looks = p.looks;
            };
      }
    where
      claims_used_now : (d : ℕ) → total (λ (x : Charge). one_if (x.claim == d)) (v.charges ++ new ∷ []) ≡ charges_of d v + one_if (C == d)
          → 1 ≤ total (λ (x : Charge). one_if (x.claim == d)) (v.charges ++ new ∷ []) → Dec (C ≡ d) → (1 ≤ charges_of d v → 1 ≤ times d t.used_claims) → 1 ≤ times d t.used_claims
      claims_used_now d g o (yes e) f = subst (λ i. 1 ≤ times i t.used_claims) e claims_used_here
      claims_used_now d g o (no n) f = let z = cond_no C d 1 0 n in f (omega arith)

  once_new : (d b : ℕ) → total (charges_at d b) (set views id W) ≤ 1
  once_new d b = pick (ℕ_discrete C d) (ℕ_discrete (count k) b) (grows (λ (x : Charge). cond (x.claim == d) (one_if (x.before == b)) 0)) (r.once d b)
    where
      pick : Dec (C ≡ d) → Dec (count k ≡ b) → total (charges_at d b) (set views id W) ≡ total (charges_at d b) views + cond (C == d) (one_if (count k == b)) 0
          → total (charges_at d b) views ≤ 1 → total (charges_at d b) (set views id W) ≤ 1
      pick (yes e) (yes s) g o =
          let z = none_at a t gate count views r k mine.0 mine.1 mine.2 in
          let z' : total (charges_at d b) views ≡ 0 = subst (λ (i : ℕ × ℕ). total (charges_at i.0 i.1) views ≡ 0) (λ i. ((mine.3 ∙ e) i, s i)) z in
          let y = cond_yes C d (one_if (count k == b)) 0 e in
          let y' = cond_yes (count k) b 1 0 s in
          omega arith
      pick (yes e) (no s) g o = let y = cond_yes C d (one_if (count k == b)) 0 e in let y' = cond_no (count k) b 1 0 s in omega arith
      pick (no n) s g o = let y = cond_no C d (one_if (count k == b)) 0 n in omega arith

  -- what lies at or below the count stays as it was
  below_same : (d b : ℕ) → (C ≡ d → b ≤ count k) → total (hits_below d b) (set views id W) ≡ total (hits_below d b) views
  below_same d b le = pick (ℕ_discrete C d) (grows (λ (x : Charge). cond (x.claim == d) (cond (ltb x.before b) x.hits 0) 0))
    where
      pick : Dec (C ≡ d) → total (hits_below d b) (set views id W) ≡ total (hits_below d b) views + cond (C == d) (cond (ltb (count k) b) h 0) 0
          → total (hits_below d b) (set views id W) ≡ total (hits_below d b) views
      pick (yes e) g = let y = cond_yes C d (cond (ltb (count k) b) h 0) 0 e in let y' = below_no (count k) b h 0 (le e) in omega arith
      pick (no n) g = let y = cond_no C d (cond (ltb (count k) b) h 0) 0 n in omega arith

  lawful_old : (j : ℕ) (x : CellView) → get_elem? views j ≡ some x → ViewLawful (set views id W) x
  lawful_old j x e =
      let l = r.lawful j x e in
      let p = (r.each j x e).caps k mine.0 mine.1 mine.2 in
      record {
        charges = each_map2 (λ (y : Charge). (1 ≤ y.hits) × (y.before ≡ total (hits_below y.claim y.before) views))
            (λ (y : Charge). y.claim ≡ mine.0.claim → y.before + y.hits ≤ count k)
            (λ (y : Charge). (1 ≤ y.hits) × (y.before ≡ total (hits_below y.claim y.before) (set views id W))) x.charges
            (λ y q m. (q.0, q.1 ∙ sym (below_same y.claim y.before (λ s. let o = m (sym s ∙ sym mine.3) in omega arith)))) l.charges p.charges;
        looks = each_map2 (λ (y : ℕ × ℕ). y.1 ≡ total (hits_below y.0 y.1) views) (λ (y : ℕ × ℕ). y.0 ≡ mine.0.claim → y.1 ≤ count k)
            (λ (y : ℕ × ℕ). y.1 ≡ total (hits_below y.0 y.1) (set views id W)) x.looks
            (λ y q m. q ∙ sym (below_same y.0 y.1 (λ s. m (sym s ∙ sym mine.3)))) l.looks p.looks;
      }

  lawful_mine : ViewLawful (set views id W) W
  lawful_mine =
      let l = lawful_old id v at in
      let b = whole_below a t gate count views r k mine.0 mine.1 mine.2 in
      record {
        charges = each_push (λ (y : Charge). (1 ≤ y.hits) × (y.before ≡ total (hits_below y.claim y.before) (set views id W))) v.charges new l.charges
            (hits.0, b ∙ ap (λ d. total (hits_below d (count k)) views) mine.3 ∙ sym (below_same C (count k) (λ _. omega arith)));
        looks = l.looks;
      }

  pub charge_keeps : Rule a t gate count' (set views id W)
  charge_keeps = record {
    truth = r.truth;
    cells = λ j u e. cell_new j u e (ℕ_discrete j k);
    each = each_set (ViewFits t count') views id W fits_other fits_mine;
    once = once_new;
    lawful = each_set (ViewLawful (set views id W)) views id W (λ j x _ e. lawful_old j x e) lawful_mine;
    claimer = total_same (λ (x : CellView). one_if x.claimer) views id v W at refl ∙ r.claimer;
    parts = total_same (λ (x : CellView). length x.numbers + x.unmade) views id v W at refl ∙ r.parts;
    few = r.few;
  }
