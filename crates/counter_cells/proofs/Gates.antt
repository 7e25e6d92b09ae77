-- What a gate's word shows, and that a step on a gate keeps the rule where it leaves charges and looks.
use Rattle.std.proofs.Common.{◌≡◌, ℕ, ◌+◌, ◌*◌, ◌/◌, ◌%◌, ◌≤◌, ◌==◌, List, [], ◌∷◌, length, set, true, false, cond, refl, sym, ap, ◌∙◌, subst, arith}
use mathlib.Core.Option.{some}
use lib.ListN.{get_elem?}
use Rattle.counter_cells.specs.declared.view.Charge.{Charge}
use Rattle.counter_cells.specs.declared.view.Cell.{Cell}
use Rattle.counter_cells.specs.declared.view.CellView.{CellView}
use Rattle.counter_cells.specs.declared.setup.Setup.{Setup}
use Rattle.std.specs.List.{AllByRecursion}
use Rattle.rate_types.specs.Sums.{total, one_if}
use Rattle.counter_cells.specs.Gates.{gate_word}
use Rattle.counter_cells.specs.Views.{small_on}
use Rattle.counter_cells.specs.Counting.{pins_on, pins_of, pair_of}
use Rattle.counter_cells.specs.Lawful.{Register}
use Rattle.counter_cells.proofs.Kept.{hits_below, ViewFits, ViewLawful, Rule}
use Rattle.rate_types.proofs.Sums.{total_set, total_same, total_le, each_set}
use Rattle.counter_cells.proofs.Looking.{total_length, one_le, lawful_same}

pub pins_le : (k : ℕ) (v : CellView) → pins_on k v ≤ pins_of v
pins_le k v = let x = total_length (λ (q : ℕ × ℕ). one_if (q.0 == k)) v.good (λ q. one_le (q.0 == k)) in
    let y = total_length (λ (q : ℕ). one_if (q == k)) v.stray (λ q. one_le (q == k)) in omega arith

total_scaled : {A : Type 0} (f : A → ℕ) (xs : List A) → total (λ x. 32 * f x) xs ≡ 32 * total f xs
total_scaled f [] = refl
total_scaled f (x ∷ xs) = let r = total_scaled f xs in omega arith

module _ (a : Setup) (t : Register) (gate count : ℕ → ℕ) (views : List CellView) (r : Rule a t gate count views) where
  pub few_pins : (k : ℕ) → total (pins_on k) views ≤ 32768
  few_pins k =
      let l = total_le (pins_on k) (λ (x : CellView). 32 * (length x.numbers + x.unmade)) views (λ j x e. let p = (r.each j x e).pins in let q = pins_le k x in omega arith) in
      let s = total_scaled (λ (x : CellView). length x.numbers + x.unmade) views in
      omega (arith, r.parts, r.few)

  -- what the word shows
  pub open_shown : (k : ℕ) (st : Cell) → get_elem? t.cells k ≡ some st → (gate k % 2 ≡ one_if st.is_open) × (gate k / 131072 ≡ st.claim)
      × (gate k / 2 % 65536 ≡ total (pins_on k) views)
  open_shown k st at = let w = (r.cells k st at).word in let f = few_pins k in let o = one_le st.is_open in (omega arith, omega arith, omega arith)

  -- a step on a gate that leaves charges, looks and parts
  pub gate_keeps : (gate' : ℕ → ℕ) (id : ℕ) (v w : CellView) → get_elem? views id ≡ some v → w.charges ≡ v.charges → w.looks ≡ v.looks → (w.claimer ≡ v.claimer)
      × (w.numbers ≡ v.numbers) × (w.unmade ≡ v.unmade)
      → ((j : ℕ) (u : Cell) → get_elem? t.cells j ≡ some u → gate' j ≡ gate_word u.claim (one_if u.is_open) (total (pins_on j) (set views id w)))
      → ((j : ℕ) → small_on j w ≤ small_on j v)
      → ((j : ℕ) (u : Cell) → get_elem? t.cells j ≡ some u → u.is_open ≡ false → u.ever ≡ true → pair_of u.claim w ≡ pair_of u.claim v)
      → ViewFits t count w → Rule a t gate' count (set views id w)
  gate_keeps gate' id v w at ch lo same word small pairs fits =
      let hs = λ (f : Charge → ℕ). total_same (λ (x : CellView). total f x.charges) views id v w at (ap (total f) ch) in
      let ls = λ (f : (ℕ × ℕ) → ℕ). total_same (λ (x : CellView). total f x.looks) views id v w at (ap (total f) lo) in
      let law = λ (j : ℕ) (x : CellView) (e : get_elem? views j ≡ some x). lawful_same views id v w x at (λ f. ap (total f) ch) (r.lawful j x e) in
      record {
        truth = r.truth;
        cells = λ j u e.
            let f = r.cells j u e in
            record {
              word = word j u e;
              never = f.never;
              sum = λ opn. f.sum opn ∙ sym (hs (λ (x : Charge). cond (x.claim == u.claim) x.hits 0));
              fresh = λ off ev. let s = f.fresh off ev in (
                hs (λ (x : Charge). one_if (x.claim == u.claim)) ∙ s.0,
                ls (λ (x : ℕ × ℕ). one_if (x.0 == u.claim)) ∙ s.1,
                total_same (pair_of u.claim) views id v w at (pairs j u e off ev) ∙ s.2,
              );
              zeroed = f.zeroed;
              room = let m = f.room in let s = total_set (small_on j) views id v w at in let l = small j in omega arith;
            };
        each = each_set (ViewFits t count) views id w (λ j x _ e. r.each j x e) fits;
        once = λ c b. let s = hs (λ (x : Charge). cond (x.claim == c) (one_if (x.before == b)) 0) in let o = r.once c b in omega arith;
        lawful = each_set (ViewLawful (set views id w)) views id w (λ j x _ e. law j x e)
            (let m = law id v at in record {
              charges = subst (AllByRecursion (λ (y : Charge). (1 ≤ y.hits) × (y.before ≡ total (hits_below y.claim y.before) (set views id w)))) (sym ch) m.charges;
              looks = subst (AllByRecursion (λ (y : ℕ × ℕ). y.1 ≡ total (hits_below y.0 y.1) (set views id w))) (sym lo) m.looks;
            });
        claimer = total_same (λ (x : CellView). one_if x.claimer) views id v w at (ap one_if same.0) ∙ r.claimer;
        parts = total_same (λ (x : CellView). length x.numbers + x.unmade) views id v w at (let x = ap (length {A = ℕ}) same.1 in let y = same.2 in omega arith) ∙ r.parts;
        few = r.few;
      }
