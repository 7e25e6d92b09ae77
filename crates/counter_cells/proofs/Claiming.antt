-- What the claimer does to a cell keeps the rule, where the cell then fits.
use Rattle.std.proofs.Common.{◌≡◌, ◌≢◌, ℕ, zero, suc, ◌+◌, ◌^◌, ◌≤◌, ◌<◌, ◌==◌, ◌&&◌, List, [], ◌∷◌, length, set, Bool, true, false, true≢false, refl, sym, ap, ◌∙◌, subst, arith}
use Rattle.std.proofs.Common.{⊎_elim}
use native.Mathlib.Decide.{ℕ_discrete, dec_lt}
use mathlib.Core.Option.{some, some-injective, some-ne-none}
use lib.ListN.{get_elem?}
use Rattle.atomic_table.proofs.Lists.{at_set, set_here, set_else}
use Rattle.counter_cells.specs.declared.view.Cell.{Cell}
use Rattle.counter_cells.specs.declared.view.CellView.{CellView}
use Rattle.counter_cells.specs.declared.setup.Setup.{Setup}
use Rattle.rate_types.specs.Sums.{total, one_if, times}
use Rattle.counter_cells.specs.Gates.{gate_word}
use Rattle.counter_cells.specs.Views.{good_on, small_on, Capped, claim_on}
use Rattle.counter_cells.specs.Counting.{is_pair, good_at, pins_on, pair_of, charges_of, looks_of}
use Rattle.counter_cells.specs.Lawful.{Register}
use Rattle.counter_cells.proofs.Kept.{hits_of, charges_at, RegisterFits, ViewFits, ViewLawful, Rule, cell_fits}
use Rattle.rate_types.proofs.Sums.{total_same, total_two, each_set}
use Rattle.counter_cells.proofs.Looking.{lawful_same}
use Rattle.counter_cells.proofs.Views.{claimed}

-- a pin at a claim is a pin on the cell
pair_on : (k c : ℕ) (ps : List (ℕ × ℕ)) → total (λ p. one_if (is_pair k c p)) ps ≤ total (λ p. one_if (p.0 == k)) ps
pair_on k c [] = omega arith
pair_on k c (p ∷ ps) = keep (p.0 == k) (p.1 == c) (pair_on k c ps)
  where
    keep : (b d : Bool) → total (λ q. one_if (is_pair k c q)) ps ≤ total (λ q. one_if (q.0 == k)) ps
        → one_if (b && d) + total (λ q. one_if (is_pair k c q)) ps ≤ one_if b + total (λ q. one_if (q.0 == k)) ps
    keep true true r = omega arith
    keep true false r = omega arith
    keep false d r = omega arith

module _ (a : Setup) (t : Register) (gate gate' count count' : ℕ → ℕ) (views : List CellView) (r : Rule a t gate count views) (id k : ℕ) (v : CellView)
    (at : get_elem? views id ≡ some v) (role : v.claimer ≡ true) (st st' : Cell) (cell : get_elem? t.cells k ≡ some st) (used' : List ℕ) (held' : List (ℕ × ℕ)) where
  abbrev T' : Register
  T' = record { cells = set t.cells k st'; used_claims = used' }

  abbrev W : CellView
  W = record v { cells = set v.cells k st'; used_claims = used'; held = held' }

  within : (l : List Cell) (i : ℕ) (s : Cell) → get_elem? l i ≡ some s → i < length l
  within [] i s e = absurd (some-ne-none s (sym e))
  within (x ∷ xs) zero s e = omega arith
  within (x ∷ xs) (suc i) s e = let w = within xs i s e in omega arith

  now : get_elem? (set t.cells k st') k ≡ some st'
  now = set_here t.cells k st' (within t.cells k st cell)

  kept : (j : ℕ) (s : Cell) → (j ≡ k → ⊥) → get_elem? t.cells j ≡ some s → get_elem? (set t.cells k st') j ≡ some s
  kept j s n e = set_else t.cells k j st' n ∙ e

  pub claim_keeps :
      ((j : ℕ) (x : CellView) → get_elem? views j ≡ some x → good_on k x ≡ 0)
      → st'.ever ≡ true → RegisterFits T' → ((c : ℕ) → 1 ≤ times c t.used_claims → 1 ≤ times c used')
      → cell_fits a.passes st' (gate' k) (count' k) (set views id W) k
      → ((j : ℕ) → (j ≡ k → ⊥) → gate' j ≡ gate j) → ((j : ℕ) → (j ≡ k → ⊥) → count' j ≡ count j)
      → (st'.is_open ≡ true → (j : ℕ) (x : CellView) → get_elem? views j ≡ some x → Capped st'.claim (count' k) x)
      → Rule a T' gate' count' (set views id W)
  claim_keeps bare ever truth draws fits gates counts caps = record {
    truth = truth;
    cells = λ j u e. ⊎_elim
        (λ (q : (j ≡ k) × (st' ≡ u)). subst (λ (i : ℕ × Cell). cell_fits a.passes i.1 (gate' i.0) (count' i.0) (set views id W) i.0) (λ i. (sym q.0 i, q.1 i)) fits)
        (λ (q : (j ≢ k) × (get_elem? t.cells j ≡ some u)). other j u q.0 q.1)
        (at_set t.cells k j st' u e);
    each = each_set (ViewFits T' count') views id W (λ j x n e. view_fits j x e x.cells x.used_claims x.held (λ c. absurd (one_claimer j x n e c)))
        (view_fits id v at (set v.cells k st') used' held' (λ _. (ap (λ l. set l k st') ((r.each id v at).claimer role).0, refl)));
    once = λ c b. let s = total_same (charges_at c b) views id v W at refl in let o = r.once c b in omega arith;
    lawful = each_set (ViewLawful (set views id W)) views id W (λ j x _ e. law j x e) (let m = law id v at in record { charges = m.charges; looks = m.looks });
    claimer = total_same (λ (x : CellView). one_if x.claimer) views id v W at refl ∙ r.claimer;
    parts = total_same (λ (x : CellView). length x.numbers + x.unmade) views id v W at refl ∙ r.parts;
    few = r.few;
  }
    where
      law : (j : ℕ) (x : CellView) → get_elem? views j ≡ some x → ViewLawful (set views id W) x
      law j x e = lawful_same views id v W x at (λ f. refl) (r.lawful j x e)

      one_claimer : (j : ℕ) (x : CellView) → (j ≡ id → ⊥) → get_elem? views j ≡ some x → x.claimer ≡ true → ⊥
      one_claimer j x n e c = let two = total_two (λ (y : CellView). one_if y.claimer) views id j v x n at e in let y : one_if v.claimer ≡ 1 = ap one_if role in
          let z : one_if x.claimer ≡ 1 = ap one_if c in omega (arith, r.claimer)

      other : (j : ℕ) (u : Cell) → (j ≡ k → ⊥) → get_elem? t.cells j ≡ some u → cell_fits a.passes u (gate' j) (count' j) (set views id W) j
      other j u n e =
          let f = r.cells j u e in
          let g = gates j n in
          let c = counts j n in
          record {
            word = g ∙ f.word ∙ ap (λ m. gate_word u.claim (one_if u.is_open) m) (sym (total_same (pins_on j) views id v W at refl));
            never = f.never;
            sum = λ o. c ∙ f.sum o ∙ sym (total_same (hits_of u.claim) views id v W at refl);
            fresh = λ off ev. let s = f.fresh off ev in (
              total_same (charges_of u.claim) views id v W at refl ∙ s.0,
              total_same (looks_of u.claim) views id v W at refl ∙ s.1,
              total_same (pair_of u.claim) views id v W at refl ∙ s.2,
            );
            zeroed = λ off ev m. c ∙ f.zeroed off ev m;
            room = let m = f.room in let s = total_same (small_on j) views id v W at refl in omega arith;
          }

      view_fits : (j : ℕ) (x : CellView) → get_elem? views j ≡ some x → (c1 : List Cell) (d1 : List ℕ) (h1 : List (ℕ × ℕ))
          → (x.claimer ≡ true → (c1 ≡ set t.cells k st') × (d1 ≡ used')) → ViewFits T' count' (record x { cells = c1; used_claims = d1; held = h1 })
      view_fits j x e c1 d1 h1 cl =
          let f = r.each j x e in
          let none = bare j x e in
          record {
            pins = f.pins;
            good = λ i c o. let g = f.good i c o in (
              g.0,
              kept i g.0 (λ d. absurd
                  (let l = pair_on k c x.good in let o' : 1 ≤ good_at k c x = subst (λ i'. 1 ≤ good_at i' c x) d o in omega arith)) g.1,
              g.2,
              g.3,
              g.4,
            );
            under = f.under;
            once = f.once;
            past = λ i c o. let g = f.past i c o in (draws c g.0, still i g.1 (ℕ_discrete i k));
            charges = λ c o. draws c (f.charges c o);
            looks = λ c o. draws c (f.looks c o);
            idle = f.idle;
            claimer = cl;
            caps = λ i u d opn. let p = cap i u d opn in record { charges = p.charges; looks = p.looks };
          }
        where
          cap : (i : ℕ) (u : Cell) → get_elem? (set t.cells k st') i ≡ some u → u.is_open ≡ true → Capped u.claim (count' i) x
          cap i u d opn = ⊎_elim
              (λ (q : (i ≡ k) × (st' ≡ u)). subst (λ (y : ℕ × Cell). Capped y.1.claim (count' y.0) x) (λ m. (sym q.0 m, q.1 m))
              (caps (ap (λ (s : Cell). s.is_open) q.1 ∙ opn) j x e))
              (λ (q : (i ≢ k) × (get_elem? t.cells i ≡ some u)). subst (λ m. Capped u.claim m x) (sym (counts i q.0)) ((r.each j x e).caps i u q.1 opn))
              (at_set t.cells k i st' u d)

          still : (i : ℕ) → ((s : Cell) × (get_elem? t.cells i ≡ some s) × (s.ever ≡ true)) → Dec (i ≡ k) → (s : Cell) × (get_elem? (set t.cells k st') i ≡ some s)
              × (s.ever ≡ true)
          still i s (yes d) = (st', subst (λ m. get_elem? (set t.cells k st') m ≡ some st') (sym d) now, ever)
          still i s (no n) = (s.0, kept i s.0 n s.1, s.2)

-- no pin on a closed cell
pub bare_closed : (a : Setup) (t : Register) (gate count : ℕ → ℕ) (views : List CellView) → Rule a t gate count views → (k : ℕ) (st : Cell) → get_elem? t.cells k ≡ some st
    → st.is_open ≡ false → (j : ℕ) (x : CellView) → get_elem? views j ≡ some x → good_on k x ≡ 0
bare_closed a t gate count views r k st cell off j x e = pick (dec_lt 0 (good_on k x))
  where
    pick : Dec (0 < good_on k x) → good_on k x ≡ 0
    pick (yes d) = let g = (r.each j x e).good k (claim_on k x.good) (claimed k x.good (omega arith)) in
        absurd (true≢false (sym g.2 ∙ ap (λ (s : Cell). s.is_open) (some-injective _ _ (sym g.1 ∙ cell)) ∙ off))
    pick (no n) = omega arith

module _ (a : Setup) (t : Register) (gate count : ℕ → ℕ) (views : List CellView) (r : Rule a t gate count views) (k : ℕ) (st : Cell) (cell : get_elem? t.cells k ≡ some st) where
  -- the register where a cell keeps its claim
  pub truth_same : (st' : Cell) → st'.ever ≡ st.ever → st'.claim ≡ st.claim → RegisterFits (record { cells = set t.cells k st'; used_claims = t.used_claims })
  truth_same st' ev cl =
      let old = λ (j : ℕ) (u : Cell) (e : get_elem? (set t.cells k st') j ≡ some u). was j u e in
      record {
        apart = λ i j s u e d es eu same. let x = was i s e in let y = was j u d in r.truth.apart i j x.0 y.0 x.1 y.1 (x.2 ∙ es) (y.2 ∙ eu) (x.3 ∙ same ∙ sym y.3);
        used_claims = λ i s e es. let x = was i s e in subst (λ c. 1 ≤ times c t.used_claims) x.3 (r.truth.used_claims i x.0 x.1 (x.2 ∙ es));
        small = λ i s e. let x = was i s e in subst (λ c. c < 2 ^ 40) x.3 (r.truth.small i x.0 x.1);
      }
    where
      was : (j : ℕ) (u : Cell) → get_elem? (set t.cells k st') j ≡ some u → (s : Cell) × (get_elem? t.cells j ≡ some s) × (s.ever ≡ u.ever) × (s.claim ≡ u.claim)
      was j u e = ⊎_elim
          (λ (q : (j ≡ k) × (st' ≡ u)). (st, ap (λ i. get_elem? t.cells i) q.0 ∙ cell, sym ev ∙ ap (λ (s : Cell). s.ever) q.1, sym cl ∙ ap (λ (s : Cell). s.claim) q.1))
          (λ (q : (j ≢ k) × (get_elem? t.cells j ≡ some u)). (u, q.1, refl, refl))
          (at_set t.cells k j st' u e)
