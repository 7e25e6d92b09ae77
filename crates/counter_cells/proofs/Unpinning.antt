-- A pin given back keeps the rule.
use Rattle.std.proofs.Common.{◌≡◌, ℕ, suc, ◌+◌, ◌≤◌, ◌==◌, List, [], ◌∷◌, length, set, Bool, true, false, true≢false, cond, refl, sym, ap, ◌∙◌, subst, arith}
use Rattle.std.specs.Prelude.{ltb}
use Rattle.std.proofs.lemmas.Bool.Decides.{nat_tests}
use native.Mathlib.Decide.{ℕ_discrete}
use mathlib.Core.Option.{some}
use lib.ListN.{get_elem?}
use Rattle.counter_cells.specs.declared.view.Cell.{Cell}
use Rattle.counter_cells.specs.declared.view.CellView.{CellView}
use Rattle.counter_cells.specs.declared.setup.Setup.{Setup}
use Rattle.rate_types.specs.Sums.{total, one_if}
use Rattle.counter_cells.specs.Gates.{gate_word}
use Rattle.counter_cells.specs.Views.{good_on, claim_on}
use Rattle.counter_cells.specs.Counting.{is_pair, pins_on, unused_on}
use Rattle.counter_cells.specs.Steps.{without, any_on, drop_pin, unpinned}
use Rattle.counter_cells.specs.InnerSteps.{drop_stray, stray_unpinned}
use Rattle.counter_cells.specs.Lawful.{Register}
use Rattle.counter_cells.proofs.Kept.{Rule}
use Rattle.rate_types.proofs.Sums.{total_set, cond_yes, cond_no}
use Rattle.counter_cells.proofs.Views.{without_here, without_le}
use Rattle.counter_cells.proofs.Gates.{gate_keeps}

drop_le : (f : (ℕ × ℕ) → ℕ) (k : ℕ) (ps : List (ℕ × ℕ)) → total f (drop_pin k ps) ≤ total f ps
drop_le f k [] = omega arith
drop_le f k (p ∷ ps) = keep (p.0 == k) (drop_le f k ps)
  where
    keep : (b : Bool) → total f (drop_pin k ps) ≤ total f ps → total f (cond b ps (p ∷ drop_pin k ps)) ≤ f p + total f ps
    keep true r = omega arith
    keep false r = omega arith

drop_length : (k : ℕ) (ps : List (ℕ × ℕ)) → length (drop_pin k ps) ≤ length ps
drop_length k [] = omega arith
drop_length k (p ∷ ps) = keep (p.0 == k) (drop_length k ps)
  where
    keep : (b : Bool) → length (drop_pin k ps) ≤ length ps → length (cond b ps (p ∷ drop_pin k ps)) ≤ suc (length ps)
    keep true r = omega arith
    keep false r = omega arith

pub drop_on : (k j : ℕ) (ps : List (ℕ × ℕ)) → 1 ≤ total (λ p. one_if (p.0 == k)) ps
    → total (λ p. one_if (p.0 == j)) (drop_pin k ps) + one_if (k == j) ≡ total (λ p. one_if (p.0 == j)) ps
drop_on k j [] h = absurd (omega arith)
drop_on k j (p ∷ ps) h = keep (p.0 == k) refl h (drop_on k j ps)
  where
    keep : (b : Bool) → (p.0 == k) ≡ b → 1 ≤ one_if (p.0 == k) + total (λ q. one_if (q.0 == k)) ps
        → (1 ≤ total (λ q. one_if (q.0 == k)) ps → total (λ q. one_if (q.0 == j)) (drop_pin k ps) + one_if (k == j) ≡ total (λ q. one_if (q.0 == j)) ps)
        → total (λ q. one_if (q.0 == j)) (cond b ps (p ∷ drop_pin k ps)) + one_if (k == j) ≡ one_if (p.0 == j) + total (λ q. one_if (q.0 == j)) ps
    keep true is h' r = let e : p.0 ≡ k = grind (arith, nat_tests) in let y : one_if (k == j) ≡ one_if (p.0 == j) = ap (λ i. one_if (i == j)) (sym e) in omega arith
    keep false is h' r = let y = ap one_if is in let s = r (omega arith) in omega arith

pub drop_claim : (k j : ℕ) (ps : List (ℕ × ℕ)) → (j ≡ k → ⊥) → claim_on j (drop_pin k ps) ≡ claim_on j ps
drop_claim k j [] ne = refl
drop_claim k j (p ∷ ps) ne = keep (p.0 == k) refl (drop_claim k j ps ne)
  where
    keep : (b : Bool) → (p.0 == k) ≡ b → claim_on j (drop_pin k ps) ≡ claim_on j ps → claim_on j (cond b ps (p ∷ drop_pin k ps)) ≡ cond (p.0 == j) p.1 (claim_on j ps)
    keep true is r = let e : p.0 ≡ k = grind (arith, nat_tests) in sym (cond_no p.0 j p.1 (claim_on j ps) (λ s. ne (sym s ∙ e)))
    keep false is r = ap (λ n. cond (p.0 == j) p.1 n) r

drop_stray_on : (k j : ℕ) (ps : List ℕ) → 1 ≤ total (λ p. one_if (p == k)) ps
    → (total (λ p. one_if (p == j)) (drop_stray k ps) + one_if (k == j) ≡ total (λ p. one_if (p == j)) ps)
drop_stray_on k j [] h = absurd (omega arith)
drop_stray_on k j (p ∷ ps) h = keep (p == k) refl h (drop_stray_on k j ps)
  where
    keep : (b : Bool) → (p == k) ≡ b → 1 ≤ one_if (p == k) + total (λ q. one_if (q == k)) ps
        → (1 ≤ total (λ q. one_if (q == k)) ps → total (λ q. one_if (q == j)) (drop_stray k ps) + one_if (k == j) ≡ total (λ q. one_if (q == j)) ps)
        → total (λ q. one_if (q == j)) (cond b ps (p ∷ drop_stray k ps)) + one_if (k == j) ≡ one_if (p == j) + total (λ q. one_if (q == j)) ps
    keep true is h' r = let e : p ≡ k = grind (arith, nat_tests) in let y : one_if (k == j) ≡ one_if (p == j) = ap (λ i. one_if (i == j)) (sym e) in omega arith
    keep false is h' r = let y = ap one_if is in let s = r (omega arith) in omega arith

drop_stray_length : (k : ℕ) (ps : List ℕ) → length (drop_stray k ps) ≤ length ps
drop_stray_length k [] = omega arith
drop_stray_length k (p ∷ ps) = keep (p == k) (drop_stray_length k ps)
  where
    keep : (b : Bool) → length (drop_stray k ps) ≤ length ps → length (cond b ps (p ∷ drop_stray k ps)) ≤ suc (length ps)
    keep true r = omega arith
    keep false r = omega arith

any_some : (k : ℕ) (ps : List (ℕ × ℕ)) → any_on k ps ≡ true → 1 ≤ total (λ p. one_if (p.0 == k)) ps
any_some k [] e = absurd (true≢false (sym e))
any_some k (p ∷ ps) e = keep (p.0 == k) e (any_some k ps)
  where
    keep : (b : Bool) → cond b true (any_on k ps) ≡ true → (any_on k ps ≡ true → 1 ≤ total (λ q. one_if (q.0 == k)) ps) → 1 ≤ one_if b + total (λ q. one_if (q.0 == k)) ps
    keep true e r = omega arith
    keep false e r = let s = r e in omega arith

module _ (a : Setup) (t : Register) (gate gate' count : ℕ → ℕ) (views : List CellView) (r : Rule a t gate count views) (id k : ℕ) (v : CellView)
    (at : get_elem? views id ≡ some v) (here : gate' k + 2 ≡ gate k) (else : (j : ℕ) → (j ≡ k → ⊥) → gate' j ≡ gate j) where
  word_less : (w : CellView) → ((j : ℕ) → pins_on j w + one_if (k == j) ≡ pins_on j v) → (j : ℕ) (u : Cell) → get_elem? t.cells j ≡ some u
      → gate' j ≡ gate_word u.claim (one_if u.is_open) (total (pins_on j) (set views id w))
  word_less w more j u e = pick (ℕ_discrete j k) (r.cells j u e).word (total_set (pins_on j) views id v w at) (more j)
    where
      pick : Dec (j ≡ k) → gate j ≡ gate_word u.claim (one_if u.is_open) (total (pins_on j) views)
          → total (pins_on j) (set views id w) + pins_on j v ≡ total (pins_on j) views + pins_on j w → pins_on j w + one_if (k == j) ≡ pins_on j v
          → gate' j ≡ gate_word u.claim (one_if u.is_open) (total (pins_on j) (set views id w))
      pick (yes d) f s m = let g : gate' j + 2 ≡ gate j = ap (λ i. gate' i + 2) d ∙ here ∙ sym (ap gate d) in let y = cond_yes k j 1 0 (sym d) in omega arith
      pick (no n) f s m = let g = else j n in let y = cond_no k j 1 0 (λ q. n (sym q)) in omega arith

  pub unpin_stray_keeps : 1 ≤ total (λ j. one_if (j == k)) v.stray → Rule a t gate' count (set views id (stray_unpinned k v))
  unpin_stray_keeps one =
      let f = r.each id v at in
      let l = drop_stray_length k v.stray in
      gate_keeps a t gate count views r gate' id v (stray_unpinned k v) at refl refl (refl, refl, refl)
      (word_less (stray_unpinned k v) (λ j. let d = drop_stray_on k j v.stray one in omega arith))
      (λ j. omega arith)
      (λ j u e off ev. refl)
      (record {
        pins = (omega arith, omega arith);
        good = f.good;
        under = f.under;
        once = f.once;
        past = f.past;
        charges = f.charges;
        looks = f.looks;
        idle = f.idle;
        claimer = f.claimer;
        caps = λ i u e o. let p = f.caps i u e o in record { charges = p.charges; looks = p.looks };
      })

  less : (b : Bool) (f : (ℕ × ℕ) → ℕ) → total f (cond b v.unused (without k v.unused)) ≤ total f v.unused
  less true f = omega arith
  less false f = without_le f k v.unused

  under_now : (j : ℕ) (b : Bool) → any_on k (drop_pin k v.good) ≡ b → Dec (j ≡ k) → 1 ≤ good_on k v → 1 ≤ total (λ p. one_if (p.0 == j)) (cond b v.unused (without k v.unused))
      → (1 ≤ unused_on j v → 1 ≤ good_on j v) → 1 ≤ total (λ p. one_if (p.0 == j)) (drop_pin k v.good)
  under_now j true is (yes d) one o f = subst (λ i. 1 ≤ total (λ p. one_if (p.0 == i)) (drop_pin k v.good)) (sym d) (any_some k (drop_pin k v.good) is)
  under_now j false is (yes d) one o f =
      let z : total (λ p. one_if (p.0 == j)) (without k v.unused) ≡ 0 =
      subst (λ i. total (λ p. one_if (p.0 == i)) (without k v.unused) ≡ 0) (sym d) (without_here k v.unused) in absurd (omega arith)
  under_now j b is (no n) one o f =
      let l = less b (λ p. one_if (p.0 == j)) in let g = f (omega arith) in let d = drop_on k j v.good one in let y = cond_no k j 1 0 (λ q. n (sym q)) in omega arith

  pub unpin_keeps : 1 ≤ good_on k v → Rule a t gate' count (set views id (unpinned k v))
  unpin_keeps one =
      let f = r.each id v at in
      let l = drop_length k v.good in
      let B = any_on k (drop_pin k v.good) in
      gate_keeps a t gate count views r gate' id v (unpinned k v) at refl refl (refl, refl, refl)
      (word_less (unpinned k v) (λ j. let d = drop_on k j v.good one in omega arith))
      (λ j. less (any_on k (drop_pin k v.good)) (λ p. cond (p.0 == j) (one_if (ltb p.1 4294967296)) 0))
      (λ j u e off ev. refl)
      (record {
        pins = (omega arith, omega arith);
        good = λ j d o. f.good j d (let x = drop_le (λ p. one_if (is_pair j d p)) k v.good in omega arith);
        under = λ j o. under_now j (any_on k (drop_pin k v.good)) refl (ℕ_discrete j k) one o (f.under j);
        once = λ j. let x = less (any_on k (drop_pin k v.good)) (λ p. one_if (p.0 == j)) in let y = f.once j in (omega arith, omega arith);
        past = f.past;
        charges = f.charges;
        looks = f.looks;
        idle = f.idle;
        claimer = f.claimer;
        caps = λ i u e o. let p = f.caps i u e o in record { charges = p.charges; looks = p.looks };
      })
