-- What was found keeps its causes.
use Rattle.std.proofs.Common.{◌≡◌, ◌⊎◌, ℕ, zero, suc, ◌+◌, ◌≤◌, ◌<◌, ◌==◌, List, [], ◌∷◌, length, set, Bool, true, false, cond, refl, sym, ap, ◌∙◌, subst, arith}
use Rattle.std.proofs.Common.{⊎_elim, inl, inr}
use Rattle.std.proofs.lemmas.Bool.Decides.{nat_tests}
use native.Mathlib.Decide.{dec_lt}
use mathlib.Core.Option.{some, some-ne-none, some-injective}
use lib.ListN.{get_elem?}
use Rattle.counter_cells.specs.declared.view.OtherGate.{OtherGate}
use Rattle.counter_cells.specs.declared.view.CellView.{CellView}
use Rattle.counter_cells.specs.declared.setup.Setup.{Setup}
use Rattle.rate_types.specs.Sums.{total, one_if}
use Rattle.counter_cells.specs.Gates.{shows}
use Rattle.counter_cells.specs.Views.{noted_on, held_on}
use Rattle.counter_cells.specs.Counting.{pins_on}
use Rattle.counter_cells.specs.Steps.{good_pin, held_by, drop_pin}
use Rattle.counter_cells.specs.InnerSteps.{stray_pin, pinned, drop_stray}
use Rattle.counter_cells.specs.Lawful.{FindingsHaveCauses}
use Rattle.rate_types.proofs.Sums.{total_set, total_push, each_set}

module _ (a : Setup) (clock clock' : ℕ) (views : List CellView) (f : FindingsHaveCauses a clock views) (up : clock ≤ clock') (id : ℕ) (v w : CellView)
    (at : get_elem? views id ≡ some v) where
  -- notes only grow
  grown : ((k : ℕ) → noted_on k v ≤ noted_on k w) → (k : ℕ) → total (noted_on k) views ≤ total (noted_on k) (set views id w)
  grown more k = let t = total_set (noted_on k) views id v w at in let m = more k in omega arith

  -- a step of one view that forgets no note
  pub findings_keep : ((k : ℕ) → noted_on k v ≤ noted_on k w) → ((k : ℕ) → 1 ≤ pins_on k w → 1 ≤ noted_on k w)
      → ((k : ℕ) → 1 ≤ held_on k w → (1 ≤ held_on k v) ⊎ ((k < a.cells) × (1 ≤ total (noted_on k) views))) → w.heard ≤ clock'
      → (w.claimer ≡ false → length w.numbers ≡ 0 → (w.pairs ≡ []) × (w.others ≡ [])) → FindingsHaveCauses a clock' (set views id w)
  findings_keep more noted held heard idle = record {
    noted = each_set (λ x. (k : ℕ) → 1 ≤ pins_on k x → 1 ≤ noted_on k x) views id w (λ j x _ e. f.noted j x e) noted;
    held = each_set (λ x. (k : ℕ) → 1 ≤ held_on k x → (k < a.cells) × (1 ≤ total (noted_on k) (set views id w))) views id w
        (λ j x _ e k o. let h = f.held j x e k o in (h.0, (let m = h.1 in let g = grown more k in omega arith)))
        (λ k o. ⊎_elim (λ p. let h = f.held id v at k p in (h.0, (let m = h.1 in let g = grown more k in omega arith)))
        (λ h. (h.0, (let m = h.1 in let g = grown more k in omega arith))) (held k o));
    heard = each_set (λ x. x.heard ≤ clock') views id w (λ j x _ e. let h = f.heard j x e in omega arith) heard;
    idle = each_set (λ x. x.claimer ≡ false → length x.numbers ≡ 0 → (x.pairs ≡ []) × (x.others ≡ [])) views id w (λ j x _ e. f.idle j x e) idle;
  }

  -- a step that notes nothing and takes no pin
  pub findings_same : (w.pairs ≡ v.pairs) × (w.others ≡ v.others) × (w.held ≡ v.held) × (w.heard ≡ v.heard) × (w.claimer ≡ v.claimer) × (w.numbers ≡ v.numbers)
      → ((k : ℕ) → pins_on k w ≤ pins_on k v) → FindingsHaveCauses a clock' (set views id w)
  findings_same same pins =
      let notes : (k : ℕ) → noted_on k w ≡ noted_on k v =
      λ k i. total (λ (p : ℕ × ℕ). one_if (p.0 == k)) (same.0 i) + total (λ (x : OtherGate). one_if (x.cell == k)) (same.1 i) in
      findings_keep (λ k. let n = notes k in omega arith)
      (λ k o. let n = notes k in let p = pins k in let m = f.noted id v at k (omega arith) in omega arith)
      (λ k o. inl (let h = ap (total (λ (p : ℕ × ℕ). one_if (p.0 == k))) same.2 in omega arith))
      (let h = f.heard id v at in let e = same.3 in omega arith)
      (λ c n. let i = f.idle id v at (sym same.4 ∙ c) (sym (ap (length {A = ℕ}) same.5) ∙ n) in (same.0 ∙ i.0, same.1 ∙ i.1))

-- a pin that is taken is noted
module _ (a : Setup) (clock : ℕ) (views : List CellView) (f : FindingsHaveCauses a clock views) (id : ℕ) (v : CellView) (at : get_elem? views id ≡ some v)
    (live : 1 ≤ length v.numbers) where
  noted_less : (m n d : ℕ) → (1 ≤ m → 1 ≤ n) → 1 ≤ d + m → 1 ≤ d + n
  noted_less m n zero h o = let p : 1 ≤ n = h (omega arith) in omega arith
  noted_less m n (suc d) h o = omega arith

  pub pin_noted : (c k word : ℕ) → FindingsHaveCauses a clock (set views id (pinned c k word v))
  pin_noted c k word = pick (shows c word)
    where
      pick : (b : Bool) → FindingsHaveCauses a clock (set views id (cond b (good_pin k c v) (stray_pin k word v)))
      pick true = findings_keep a clock clock views f (omega arith) id v (good_pin k c v) at (λ j. omega arith)
          (λ j o. let m = noted_less (pins_on j v) (noted_on j v) (one_if (k == j)) (f.noted id v at j) (omega arith) in omega arith)
          (λ j o. inl o) (f.heard id v at) (λ _ z. absurd (omega arith))
      pick false = findings_keep a clock clock views f (omega arith) id v (stray_pin k word v) at
          (λ j. let p = added j in omega arith)
          (λ j o. let p = added j in let m = noted_less (pins_on j v) (noted_on j v) (one_if (k == j)) (f.noted id v at j) (omega arith) in omega arith)
          (λ j o. inl o) (f.heard id v at) (λ _ z. absurd (omega arith))
        where
          added : (j : ℕ) → total (λ (x : OtherGate). one_if (x.cell == j)) (stray_pin k word v).others
              ≡ total (λ (x : OtherGate). one_if (x.cell == j)) v.others + one_if (k == j)
          added j = total_push (λ (x : OtherGate). one_if (x.cell == j)) v.others _

-- a cell that is found pinned was noted by the view that pins it
some_part : {A : Type 0} (g : A → ℕ) (xs : List A) → 1 ≤ total g xs → (j : ℕ) × (x : A) × (get_elem? xs j ≡ some x) × (1 ≤ g x)
some_part g [] h = absurd (omega arith)
some_part {A} g (x ∷ xs) h = pick (dec_lt 0 (g x)) (λ o. some_part g xs o)
  where
    pick : Dec (0 < g x) → (1 ≤ total g xs → (j : ℕ) × (y : A) × (get_elem? xs j ≡ some y) × (1 ≤ g y)) → (j : ℕ) × (y : A) × (get_elem? (x ∷ xs) j ≡ some y) × (1 ≤ g y)
    pick (yes d) rest = (0, x, refl, omega arith)
    pick (no d) rest = let r = rest (omega arith) in (suc r.0, r.1, r.2, r.3)

part_of : {A : Type 0} (g : A → ℕ) (xs : List A) (j : ℕ) (x : A) → get_elem? xs j ≡ some x → g x ≤ total g xs
part_of g [] j x e = absurd (some-ne-none x (sym e))
part_of g (y ∷ ys) zero x e = let s : g y ≡ g x = ap g (some-injective _ _ e) in omega arith
part_of g (y ∷ ys) (suc j) x e = let r = part_of g ys j x e in omega arith

module _ (a : Setup) (clock : ℕ) (views : List CellView) (f : FindingsHaveCauses a clock views) (id : ℕ) (v : CellView) (at : get_elem? views id ≡ some v) where
  pub held_noted : (k pins : ℕ) → k < a.cells → 1 ≤ total (pins_on k) views → FindingsHaveCauses a clock (set views id (held_by k pins v))
  held_noted k pins low some_pin =
      findings_keep a clock clock views f (omega arith) id v (held_by k pins v) at (λ j. omega arith) (f.noted id v at)
      (λ j o. pick j (dec_lt 0 (held_on j v)) (total_push (λ (p : ℕ × ℕ). one_if (p.0 == j)) v.held (k, pins)) o)
      (f.heard id v at) (f.idle id v at)
    where
      same : (j : ℕ) (b : Bool) → (k == j) ≡ b → 1 ≤ one_if b → k ≡ j
      same j true e o = grind (arith, nat_tests)
      same j false e o = absurd (omega arith)

      pick : (j : ℕ) → Dec (0 < held_on j v) → held_on j (held_by k pins v) ≡ held_on j v + one_if (k == j) → 1 ≤ held_on j (held_by k pins v)
          → (1 ≤ held_on j v) ⊎ ((j < a.cells) × (1 ≤ total (noted_on j) views))
      pick j (yes d) e o = inl (omega arith)
      pick j (no d) e o =
          let is : k ≡ j = same j (k == j) refl (omega arith) in
          let p = some_part (pins_on k) views some_pin in
          let n = f.noted p.0 p.1 p.2 k p.3 in
          let t = part_of (noted_on k) views p.0 p.1 p.2 in
          inr (subst (λ i. (i < a.cells) × (1 ≤ total (noted_on i) views)) is (low, omega arith))

-- a pin given back is one less
pub dropped_le : (j k : ℕ) (ps : List (ℕ × ℕ)) → total (λ p. one_if (p.0 == j)) (drop_pin k ps) ≤ total (λ p. one_if (p.0 == j)) ps
dropped_le j k [] = omega arith
dropped_le j k (p ∷ ps) = keep (p.0 == k) (dropped_le j k ps)
  where
    keep : (b : Bool) → total (λ q. one_if (q.0 == j)) (drop_pin k ps) ≤ total (λ q. one_if (q.0 == j)) ps
        → total (λ q. one_if (q.0 == j)) (cond b ps (p ∷ drop_pin k ps)) ≤ one_if (p.0 == j) + total (λ q. one_if (q.0 == j)) ps
    keep true r = omega arith
    keep false r = omega arith

pub dropped_stray_le : (j k : ℕ) (ps : List ℕ) → total (λ p. one_if (p == j)) (drop_stray k ps) ≤ total (λ p. one_if (p == j)) ps
dropped_stray_le j k [] = omega arith
dropped_stray_le j k (p ∷ ps) = keep (p == k) (dropped_stray_le j k ps)
  where
    keep : (b : Bool) → total (λ q. one_if (q == j)) (drop_stray k ps) ≤ total (λ q. one_if (q == j)) ps
        → total (λ q. one_if (q == j)) (cond b ps (p ∷ drop_stray k ps)) ≤ one_if (p == j) + total (λ q. one_if (q == j)) ps
    keep true r = omega arith
    keep false r = omega arith
