-- How many cells stand where.
use Rattle.std.proofs.Common.{◌≡◌, ℕ, zero, suc, ◌+◌, ◌≤◌, ◌<◌, ◌==◌, List, [], ◌∷◌, length, Bool, true, false, refl, sym, ap, ◌∙◌, arith, eq-eqb}
use Rattle.std.specs.Prelude.{ltb}
use native.Mathlib.Decide.{ℕ_discrete, dec_le}
use Rattle.std.proofs.lemmas.Bool.Decides.{nat_tests}
use Rattle.std.proofs.lemmas.Bool.{ne_eqb, lt-ltb, le-ltb}
use mathlib.Core.Option.{some}
use lib.ListN.{get_elem?}
use Rattle.rate_types.specs.Sums.{total, one_if, times}
use Rattle.counter_directory.specs.declared.claim.Claim.{Claim}
use Rattle.counter_directory.specs.declared.ring.Ring.{Ring}
use Rattle.counter_directory.specs.Claims.{last_end}
use Rattle.counter_cells.specs.declared.answers.Spot.{Spot}
use Rattle.counter_directory.specs.Pool.{IsLawfulPool, ring_times, reserved_on}
use Rattle.counter_directory.specs.Claims.{live_below}
use Rattle.counter_directory.specs.Windows.{ExpiredBelow}
use Rattle.counter_directory.proofs.Lists.{at_within}
use Rattle.counter_directory.proofs.Moves.{one_most}

-- f of each number below n, added up
abbrev pub sum_below : ℕ → (ℕ → ℕ) → ℕ
sum_below zero f = 0
sum_below (suc n) f = f n + sum_below n f

pub sum_same : (n : ℕ) (f g : ℕ → ℕ) → ((k : ℕ) → k < n → f k ≡ g k) → sum_below n f ≡ sum_below n g
sum_same zero f g h = refl
sum_same (suc n) f g h = let a = h n (omega arith) in let r = sum_same n f g (λ k l. h k (omega arith)) in omega arith

pub sum_plus : (n : ℕ) (f g : ℕ → ℕ) → sum_below n (λ k. f k + g k) ≡ sum_below n f + sum_below n g
sum_plus zero f g = omega arith
sum_plus (suc n) f g = let r = sum_plus n f g in omega arith

pub sum_none : (n : ℕ) → sum_below n (λ k. 0) ≡ 0
sum_none zero = refl
sum_none (suc n) = let r = sum_none n in omega arith

pub sum_ones : (n m : ℕ) → n ≤ m → sum_below n (λ k. one_if (ltb k m)) ≡ n
sum_ones zero m h = refl
sum_ones (suc n) m h = let r = sum_ones n m (omega arith) in let e : one_if (ltb n m) ≡ 1 = ap one_if (lt-ltb n m (omega arith)) in omega arith

pub sum_one : (n x : ℕ) → sum_below n (λ k. one_if (x == k)) ≡ one_if (ltb x n)
sum_one zero x = sym (ap one_if (le-ltb x zero (omega arith)))
sum_one (suc n) x = let r = sum_one n x in pick r (ℕ_discrete x n)
  where
    pick : sum_below n (λ k. one_if (x == k)) ≡ one_if (ltb x n) → Dec (x ≡ n) → one_if (x == n) + sum_below n (λ k. one_if (x == k)) ≡ one_if (ltb x (suc n))
    pick r (yes e) =
        let a : one_if (x == n) ≡ 1 = ap one_if (eq-eqb x n e) in
        let b : one_if (ltb x n) ≡ 0 = ap one_if (le-ltb x n (omega arith)) in
        let d : one_if (ltb x (suc n)) ≡ 1 = ap one_if (lt-ltb x (suc n) (omega arith)) in
        omega arith
    pick r (no ne) = let a : one_if (x == n) ≡ 0 = ap one_if (ne_eqb x n ne) in let b : one_if (ltb x n) ≡ one_if (ltb x (suc n)) = grind (arith, nat_tests) in omega arith

-- a list has as many items as they stand in it, where all are below n
pub sum_times : {A : Type 0} → (n : ℕ) (f : A → ℕ) (xs : List A) → ((k : ℕ) → n ≤ k → total (λ x. one_if (f x == k)) xs ≡ 0)
    → sum_below n (λ k. total (λ x. one_if (f x == k)) xs) ≡ length xs
sum_times n f [] h = sum_none n
sum_times n f (x ∷ xs) h =
    let r = sum_times n f xs (λ k l. let q = h k l in omega arith) in
    let p = sum_plus n (λ k. one_if (f x == k)) (λ k. total (λ y. one_if (f y == k)) xs) in
    let o = sum_one n (f x) in
    let w : one_if (ltb (f x) n) ≡ 1 = pick (ltb (f x) n) refl in
    omega arith
  where
    pick : (b : Bool) → ltb (f x) n ≡ b → one_if b ≡ 1
    pick true is = refl
    pick false is = let l : n ≤ f x = grind (arith, nat_tests) in let q = h (f x) l in let e : one_if (f x == f x) ≡ 1 = ap one_if (eq-eqb (f x) (f x) refl) in
        absurd (omega arith)

-- how many cells the rings hold
abbrev pub ring_lens : List Ring → ℕ
ring_lens rings = total (λ (r : Ring). length r.cells.items) rings

pub sum_rings : (n : ℕ) (rings : List Ring) → ((k : ℕ) → n ≤ k → ring_times k rings ≡ 0) → sum_below n (λ k. ring_times k rings) ≡ ring_lens rings
sum_rings n [] h = sum_none n
sum_rings n (r ∷ rs) h =
    let a = sum_rings n rs (λ k l. let q = h k l in omega arith) in
    let p = sum_plus n (λ k. times k r.cells.items) (λ k. ring_times k rs) in
    let b = sum_times n (λ x. x) r.cells.items (λ k l. let q = h k l in omega arith) in
    omega arith

module _ {A : Type 0} where
  pub total_some : (f : A → ℕ) (xs : List A) → 1 ≤ total f xs → (i : ℕ) × (x : A) × (get_elem? xs i ≡ some x) × (1 ≤ f x)
  total_some f [] h = absurd (omega arith)
  total_some f (x ∷ xs) h = pick (f x) refl (λ z. total_some f xs (omega (arith, z)))
    where
      pick : (n : ℕ) → f x ≡ n → (f x ≡ 0 → (i : ℕ) × (y : A) × (get_elem? xs i ≡ some y) × (1 ≤ f y)) → (i : ℕ) × (y : A) × (get_elem? (x ∷ xs) i ≡ some y) × (1 ≤ f y)
      pick zero is rest = let r = rest is in (suc r.0, r.1, r.2, r.3)
      pick (suc n) is rest = (zero, x, refl, omega arith)

module _ (cells last fresh next_claim : ℕ) (claims : List Claim) (rings : List Ring) (expired held : List ℕ) (reserved : List Spot)
    (f : IsLawfulPool cells last fresh next_claim claims rings expired held reserved) where
  outside : (k : ℕ) → fresh ≤ k → one_if (ltb k fresh) ≡ 0
  outside k h = ap one_if (le-ltb k fresh h)

  -- the cells that were ever taken are those in the lists
  pub counted : ring_lens rings + length expired + length held + length reserved ≡ fresh
  counted =
      let none = λ (k : ℕ) (l : fresh ≤ k). let o = f.once k in let z = outside k l in
      let q : ring_times k rings + times k expired + times k held + reserved_on k reserved ≡ 0 = omega arith in q in
      let a = sum_rings fresh rings (λ k l. let q = none k l in omega arith) in
      let b = sum_times fresh (λ x. x) expired (λ k l. let q = none k l in omega arith) in
      let d = sum_times fresh (λ x. x) held (λ k l. let q = none k l in omega arith) in
      let e = sum_times fresh (λ (p : Spot). p.cell) reserved (λ k l. let q = none k l in omega arith) in
      let o = sum_ones fresh fresh (omega arith) in
      let s = sum_same fresh (λ k. ring_times k rings + times k expired + times k held + reserved_on k reserved) (λ k. one_if (ltb k fresh)) (λ k l. f.once k) in
      let p = sum_plus fresh (λ k. ring_times k rings + times k expired + times k held) (λ k. reserved_on k reserved) in
      let q = sum_plus fresh (λ k. ring_times k rings + times k expired) (λ k. times k held) in
      let r = sum_plus fresh (λ k. ring_times k rings) (λ k. times k expired) in
      omega arith

  live_at : length rings ≤ 4 → ExpiredBelow 4 last rings → (k : ℕ) → one_if (ltb last (last_end 0 k claims)) ≡ ring_times k rings
  live_at four emptied k = pick (ring_times k rings) refl
    where
      o : ring_times k rings + times k expired + times k held + reserved_on k reserved ≡ one_if (ltb k fresh)
      o = f.once k

      gone : ring_times k rings ≡ 0 → Dec (1 ≤ times k expired + times k held + reserved_on k reserved) → last_end 0 k claims ≤ last
      gone z (yes h) = f.ended k h
      gone z (no n) = let w : one_if (ltb k fresh) ≡ 0 = omega arith in let l : fresh ≤ k = grind (arith, nat_tests) in let e = f.never k l in omega arith

      pick : (n : ℕ) → ring_times k rings ≡ n → one_if (ltb last (last_end 0 k claims)) ≡ n
      pick zero is = ap one_if (le-ltb last (last_end 0 k claims) (gone is (dec_le 1 (times k expired + times k held + reserved_on k reserved))))
      pick (suc n) is =
          let s = total_some (λ (r : Ring). times k r.cells.items) rings (omega arith) in
          let e = f.ringed s.0 s.1 s.2 k s.3 in
          let w = at_within rings s.0 s.1 s.2 in
          let later : last < s.1.end = later_end s.0 s.1 s.2 s.3 (dec_le s.1.end last) in
          let m = one_most (ltb k fresh) in
          let t : one_if (ltb last (last_end 0 k claims)) ≡ 1 = ap one_if (lt-ltb last (last_end 0 k claims) (omega arith)) in
          omega arith
        where
          later_end : (u : ℕ) (r : Ring) → get_elem? rings u ≡ some r → 1 ≤ times k r.cells.items → Dec (r.end ≤ last) → last < r.end
          later_end u r at h (yes le) =
              let w = at_within rings u r at in let z : times k r.cells.items ≡ 0 = ap (times k) (emptied u (omega arith) r at le) in absurd (omega arith)
          later_end u r at h (no n) = omega arith

  live_sum : length rings ≤ 4 → ExpiredBelow 4 last rings → (n : ℕ) → live_below n last claims ≡ sum_below n (λ k. ring_times k rings)
  live_sum four emptied zero = refl
  live_sum four emptied (suc n) = let r = live_sum four emptied n in let a = live_at four emptied n in omega arith

  -- the cells of open windows are those in the rings
  pub live_is : length rings ≤ 4 → ExpiredBelow 4 last rings → live_below cells last claims ≡ ring_lens rings
  live_is four emptied = live_sum four emptied cells ∙ sum_rings cells rings (λ k l. let m = f.most in let o = f.once k in let z = outside k (omega arith) in omega arith)
