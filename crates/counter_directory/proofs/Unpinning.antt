-- Pins that are given back in order.
use Rattle.std.proofs.Common.{◌≡◌, ℕ, zero, suc, ◌+◌, ◌≤◌, ◌<◌, ◌==◌, List, [], ◌∷◌, length, drop, get_or, cond, eq-eqb, drop-cons, refl, sym, ap, ◌∙◌, arith}
use Rattle.std.proofs.lemmas.Bool.{ne_eqb}
use native.Mathlib.Decide.{ℕ_discrete}
use Rattle.rate_types.specs.Sums.{total, one_if}
use Rattle.counter_cells.specs.Views.{good_on}
use Rattle.counter_cells.specs.Steps.{drop_pin, unpinned}
use Rattle.counter_cells.specs.declared.view.CellView.{CellView}
use Rattle.counter_cells.specs.declared.answers.Spot.{Spot}
use Rattle.counter_directory.specs.Spots.{spots_on, LeavesAllButPins}

-- a pin given back is one less on its cell
pins_less : (k j : ℕ) (ps : List (ℕ × ℕ)) → 1 ≤ total (λ p. one_if (p.0 == k)) ps
    → total (λ p. one_if (p.0 == j)) (drop_pin k ps) + one_if (k == j) ≡ total (λ p. one_if (p.0 == j)) ps
pins_less k j [] h = absurd (omega arith)
pins_less k j (p ∷ ps) h = pick (ℕ_discrete p.0 k) (λ g. pins_less k j ps g)
  where
    pick : Dec (p.0 ≡ k) → (1 ≤ total (λ q. one_if (q.0 == k)) ps → total (λ q. one_if (q.0 == j)) (drop_pin k ps) + one_if (k == j) ≡ total (λ q. one_if (q.0 == j)) ps)
        → total (λ q. one_if (q.0 == j)) (cond (p.0 == k) ps (p ∷ drop_pin k ps)) + one_if (k == j) ≡ one_if (p.0 == j) + total (λ q. one_if (q.0 == j)) ps
    pick (yes e) r = let a : one_if (k == j) ≡ one_if (p.0 == j) =
        ap (λ i. one_if (i == j)) (sym e) in let b : total (λ q. one_if (q.0 == j)) (cond (p.0 == k) ps (p ∷ drop_pin k ps)) ≡ total (λ q. one_if (q.0 == j)) ps = ap
        (λ c. total (λ (q : ℕ × ℕ). one_if (q.0 == j)) (cond c ps (p ∷ drop_pin k ps))) (eq-eqb p.0 k e) in omega arith
    pick (no n) r = let z : one_if (p.0 == k) ≡ 0 =
        ap one_if (ne_eqb p.0 k n) in let b : total (λ q. one_if (q.0 == j)) (cond (p.0 == k) ps (p ∷ drop_pin k ps)) ≡ one_if (p.0 == j) + total (λ q. one_if (q.0 == j))
        (drop_pin k ps) = ap (λ c. total (λ (q : ℕ × ℕ). one_if (q.0 == j)) (cond c ps (p ∷ drop_pin k ps))) (ne_eqb p.0 k n) in let s = r (omega arith) in omega arith

pub no_pins : (ps : List (ℕ × ℕ)) → ((k : ℕ) → total (λ p. one_if (p.0 == k)) ps ≡ 0) → ps ≡ []
no_pins [] h = refl
no_pins (p ∷ ps) h = let z = h p.0 in let o : one_if (p.0 == p.0) ≡ 1 = ap one_if (eq-eqb p.0 p.0 refl) in absurd (omega arith)

drop_one : (k : ℕ) (spots : List Spot) (i : ℕ) (d : Spot) → i < length spots → spots_on k (drop i spots) ≡ one_if ((get_or spots i d).cell == k) + spots_on k (drop (i + 1) spots)
drop_one k spots i d lt = ap (spots_on k) (drop-cons spots i d lt ∙ ap (λ n. get_or spots i d ∷ drop n spots) (let e : suc i ≡ i + 1 = omega arith in e))

-- the next spot's cell is pinned
pub next_pinned : (i : ℕ) (d : Spot) (spots : List Spot) (v : CellView) → i < length spots → ((k : ℕ) → good_on k v ≡ spots_on k (drop i spots))
    → 1 ≤ good_on (get_or spots i d).cell v
next_pinned i d spots v lt left =
    let c = (get_or spots i d).cell in
    let h = left c in
    let p = drop_one c spots i d lt in
    let one : one_if (c == c) ≡ 1 = ap one_if (eq-eqb c c refl) in
    omega arith

pub left_less : (i : ℕ) (d : Spot) (spots : List Spot) (v w : CellView) → i < length spots → w ≡ unpinned (get_or spots i d).cell v
    → ((k : ℕ) → good_on k v ≡ spots_on k (drop i spots)) → (k : ℕ) → good_on k w ≡ spots_on k (drop (i + 1) spots)
left_less i d spots v w lt e left k =
    let c = (get_or spots i d).cell in
    let a = left k in
    let o = drop_one k spots i d lt in
    let l = pins_less c k v.good (next_pinned i d spots v lt left) in
    let g : good_on k w ≡ total (λ (q : ℕ × ℕ). one_if (q.0 == k)) (drop_pin c v.good) = ap (good_on k) e in
    omega arith

pub none_left : (k : ℕ) (spots : List Spot) (i : ℕ) → length spots ≤ i → spots_on k (drop i spots) ≡ 0
none_left k [] zero h = refl
none_left k [] (suc i) h = refl
none_left k (x ∷ xs) zero h = absurd (omega arith)
none_left k (x ∷ xs) (suc i) h = none_left k xs i (omega arith)

-- one more pin given back changes nothing else
pub left_rest : (before v w : CellView) (cell : ℕ) → LeavesAllButPins before v → w ≡ unpinned cell v → LeavesAllButPins before w
left_rest before v w cell so_far is =
    is ∙ ap (unpinned cell) so_far ∙ sym (ap (λ (x : CellView). record before { good = x.good; unused = x.unused }) (is ∙ ap (unpinned cell) so_far))
