-- What a pass keeps over its steps.
use Rattle.std.proofs.Common.{◌≡◌, ℕ, suc, ◌+◌, ◌-◌, ◌≤◌, ◌<◌, [], ◌∷◌, length, Bool, true, cond, get_or, zero, false, refl, sym, ap, ◌∙◌, subst, arith}
use Rattle.std.proofs.lemmas.Bool.{lt-ltb, le-ltb}
use Rattle.std.specs.Prelude.{ltb}
use Rattle.counter_cells.specs.declared.view.CellView.{CellView}
use Rattle.rate_types.specs.Sums.{one_if}
use Rattle.counter_cells.specs.Gates.{shows, gate_word, claim_shown, bit_shown}
use Rattle.counter_cells.specs.WordIndex.{gate_at, gate_cell}
use Rattle.counter_cells.specs.Views.{good_on, cell_or, claim_on}
use Rattle.counter_cells.specs.Counting.{stray_on}
use Rattle.counter_cells.specs.Steps.{ticked, glanced, unpinned, good_pin, fresh_pass, new_passes}
use Rattle.counter_cells.specs.InnerSteps.{stray_pin, pinned}
use Rattle.counter_cells.specs.Seats.{IsPass}
use Rattle.rate_types.proofs.Sums.{cond_yes, cond_no}
use Rattle.counter_cells.proofs.Views.{drop_length_one}
use Rattle.counter_cells.proofs.Unpinning.{drop_on, drop_claim}

pub still_pass : (k index : ℕ) (v w : CellView) → index ≡ gate_at k → w ≡ unpinned (gate_cell index) v → 1 ≤ good_on k v → IsPass v → IsPass w × (w.moment ≡ v.moment)
    × (length w.good + 1 ≡ length v.good)
still_pass k index v w is step pin p =
    let e : gate_cell index ≡ k = omega arith in
    subst (λ (x : CellView). IsPass x × (x.moment ≡ v.moment) × (length x.good + 1 ≡ length v.good)) (ap (λ i. unpinned i v) (sym e) ∙ sym step)
    (record { role = p.role; number = p.number; made = p.made; straight = p.straight }, refl, drop_length_one k v.good pin)

-- a pin given back is one less on its cell, and leaves the pins on other cells
pub unpin_less : (k index : ℕ) (u v w : CellView) → v ≡ u → index ≡ gate_at k → w ≡ unpinned (gate_cell index) v → 1 ≤ good_on k u → good_on k u ≡ good_on k w + 1
unpin_less k index u v w same at step pin =
    let e : gate_cell index ≡ k = omega arith in
    let is : w ≡ unpinned k u = step ∙ (λ i. unpinned (e i) (same i)) in
    let d = drop_on k k u.good pin in
    let o = cond_yes k k 1 0 refl in
    let g : good_on k w ≡ good_on k (unpinned k u) = ap (good_on k) is in
    omega arith

pub unpin_else : (k index : ℕ) (u v w : CellView) → v ≡ u → index ≡ gate_at k → w ≡ unpinned (gate_cell index) v → 1 ≤ good_on k u → (j : ℕ) → (j ≡ k → ⊥)
    → (good_on j w ≡ good_on j u) × (claim_on j w.good ≡ claim_on j u.good)
unpin_else k index u v w same at step pin j ne =
    let e : gate_cell index ≡ k = omega arith in
    let is : w ≡ unpinned k u = step ∙ (λ i. unpinned (e i) (same i)) in
    let d = drop_on k j u.good pin in
    let o = cond_no k j 1 0 (λ s. ne (sym s)) in
    let g : good_on j w ≡ good_on j (unpinned k u) = ap (good_on j) is in
    ((omega arith), ap (λ (x : CellView). claim_on j x.good) is ∙ drop_claim k j u.good ne)

-- a gate's word without its pins, as the claimer that has read it knows it
pub bare_is : (k index word bare : ℕ) (v w : CellView) → index ≡ gate_at k → w ≡ v → bit_shown word ≡ one_if (cell_or v.cells (gate_cell index)).is_open
    → claim_shown word ≡ (cell_or v.cells (gate_cell index)).claim → bare ≡ gate_word (claim_shown word) (bit_shown word) 0
    → bare ≡ gate_word (cell_or w.cells k).claim (one_if (cell_or w.cells k).is_open) 0
bare_is k index word bare v w is same bit claim shown =
    let e : gate_cell index ≡ k = omega arith in
    shown ∙ subst (λ (x : ℕ × CellView). gate_word (claim_shown word) (bit_shown word) 0 ≡ gate_word (cell_or x.1.cells x.0).claim (one_if (cell_or x.1.cells x.0).is_open) 0)
    (λ i. (e i, sym same i)) (λ i. gate_word (claim i) (bit i) 0)

-- a pin at a gate that doesn't show the claim is stray
pub strays : (claim k word : ℕ) (v w : CellView) → w ≡ pinned claim k word v → shows claim word ≡ false → 1 ≤ stray_on k w
strays claim k word v w is shut =
    let y = cond_yes k k 1 0 refl in
    subst (λ (x : CellView). 1 ≤ stray_on k x) (sym (is ∙ ap (λ b. cond b (good_pin k claim v) (stray_pin k word v)) shut)) (omega arith)

-- the passes still to be made are the next one and the others
pub next_pass : (p d start : ℕ) → d < p → new_passes (p - d) start ≡ fresh_pass (p - d - 1) start ∷ new_passes (p - (d + 1)) start
next_pass p d start less =
    let e : p - d ≡ suc (p - (d + 1)) = omega arith in
    let f : p - (d + 1) ≡ p - d - 1 = omega arith in
    ap (λ m. new_passes m start) e ∙ ap (λ m. fresh_pass m start ∷ new_passes (p - (d + 1)) start) f

-- a look at the clock leaves the numbers
glanced_numbers : (n now : ℕ) (v : CellView) → (glanced n now v).numbers ≡ v.numbers
glanced_numbers n now v = pick (ltb n now)
  where
    pick : (b : Bool) → (cond b v (ticked n now v)).numbers ≡ v.numbers
    pick true = refl
    pick false = refl

pub glanced_pass : (n now : ℕ) (v w : CellView) → w ≡ glanced n now v → 1 ≤ length v.numbers → 1 ≤ length w.numbers
glanced_pass n now v w is one = subst (λ (x : CellView). 1 ≤ length x.numbers) (sym is) (let e = ap (length {A = ℕ}) (glanced_numbers n now v) in omega arith)

-- a look that was too early left the view, and one that wasn't is a tick
pub glanced_early : (n now : ℕ) (v : CellView) → n < now → glanced n now v ≡ v
glanced_early n now v h = ap (λ b. cond b v (ticked n now v)) (lt-ltb n now h)

pub glanced_late : (n now : ℕ) (v : CellView) → now ≤ n → glanced n now v ≡ ticked n now v
glanced_late n now v h = ap (λ b. cond b v (ticked n now v)) (le-ltb n now h)

-- no pass has a pin when it is made
pub new_bare : (p start : ℕ) (i : ℕ) (d : CellView) → i < length (new_passes p start) → (get_or (new_passes p start) i d).good ≡ []
new_bare zero start i d h = absurd (omega arith)
new_bare (suc p) start zero d h = refl
new_bare (suc p) start (suc i) d h = new_bare p start i d (omega arith)
