-- Batches: which numbers they have, and that each is given out once.
use Rattle.std.proofs.Common.{◌≡◌, ℕ, zero, suc, ◌+◌, ◌*◌, ◌/◌, ◌≤◌, ◌<◌, ◌==◌, List, [], ◌∷◌, ◌++◌, length, map, get_or, Bool, true, false, refl, sym, ap, ◌∙◌, subst, arith, min, length-append}
use Rattle.std.specs.Prelude.{All}
use native.Mathlib.Decide.{dec_lt}
use Rattle.std.proofs.lemmas.Bool.Decides.{nat_tests}
use Rattle.std.proofs.lemmas.Grind.{get_or_default_zero}
use Rattle.std.proofs.Math.Nat.{div-lt_iff_lt-mul, lt-div-mul-add, div-mul-le_self, mul-le-mul_right}
use Rattle.std.proofs.Math.ListN.{get_or-append}
use Rattle.std.proofs.Math.Seq.{get_or-append_seam}
use Rattle.rate_types.specs.Sums.{total, one_if, times}
use Rattle.rate_types.proofs.Sums.{total_append}
use Rattle.line_numbers.specs.Rising.{IsRising, IsDrawnOnce}
use Rattle.line_numbers.specs.Within.{within, batched}
use Rattle.line_numbers.specs.Drawers.{drawn, is_told}
use Rattle.line_numbers.specs.Batches.{given, is_done}
use Rattle.line_numbers.specs.declared.drawer.Drawer.{Drawer}
use Rattle.line_numbers.specs.declared.batch_drawer.BatchDrawer.{BatchDrawer}

-- ---- numbers in order, with one more

before_seam : (xs : List ℕ) (n k : ℕ) → k < length xs → get_or (xs ++ n ∷ []) k 0 ≡ get_or xs k 0
before_seam xs n k lt = get_or-append xs (n ∷ []) 0 k lt

at_seam : (xs : List ℕ) (n k : ℕ) → k ≡ length xs → get_or (xs ++ n ∷ []) k 0 ≡ n
at_seam xs n k e = ap (λ (i : ℕ). get_or (xs ++ n ∷ []) i 0) e ∙ get_or-append_seam xs n [] 0

pub rises_more : (xs : List ℕ) (n : ℕ) → IsRising xs → All (λ x. x < n) xs → IsRising (xs ++ n ∷ [])
rises_more xs n rises below i j lt within = split (dec_lt j (length xs))
  where
    split : Dec (j < length xs) → get_or (xs ++ n ∷ []) i 0 < get_or (xs ++ n ∷ []) j 0
    split (yes d) =
        let a = before_seam xs n i (omega arith) in
        let b = before_seam xs n j d in
        let h = rises i j lt d in
        omega arith
    split (no d) =
        let l = length-append xs (n ∷ []) in
        let a = before_seam xs n i (omega arith) in
        let b = at_seam xs n j (omega arith) in
        let h = below i 0 (omega arith) in
        omega arith

pub below_more : (xs : List ℕ) (n : ℕ) → All (λ x. x < n) xs → All (λ x. x < n + 1) (xs ++ n ∷ [])
below_more xs n below k d within = split (dec_lt k (length xs))
  where
    zero_is : get_or (xs ++ n ∷ []) k d ≡ get_or (xs ++ n ∷ []) k 0
    zero_is = get_or_default_zero (xs ++ n ∷ []) k d within

    split : Dec (k < length xs) → get_or (xs ++ n ∷ []) k d < n + 1
    split (yes lt) =
        let z = zero_is in
        let a = before_seam xs n k lt in
        let h = below k 0 lt in
        omega arith
    split (no ge) =
        let z = zero_is in
        let l = length-append xs (n ∷ []) in
        let a = at_seam xs n k (omega arith) in
        omega arith

-- the last number is above the others
pub front_below : (xs : List ℕ) (n : ℕ) → IsRising (xs ++ n ∷ []) → All (λ x. x < n) xs
front_below xs n rises k d lt =
    let z = get_or_default_zero xs k d lt in
    let l = length-append xs (n ∷ []) in
    let h = rises k (length xs) lt (omega arith) in
    let a = before_seam xs n k lt in
    let b = at_seam xs n (length xs) refl in
    omega arith

-- ---- one batch

-- the first number of a part, and the others
pub first_and_rest : (next end n : ℕ) (b : Bool) → (next == n) ≡ b → next < end → within next end n ≡ one_if b + within (next + 1) end n
first_and_rest next end n true is lt = let at : next ≡ n = grind (arith, nat_tests) in omega arith
first_and_rest next end n false is lt = let off : next ≡ n → ⊥ = λ e. absurd (grind (arith, nat_tests)) in split (dec_lt n next)
  where
    split : Dec (n < next) → within next end n ≡ 0 + within (next + 1) end n
    split (yes d) = omega arith
    split (no d) = let above : next < n = grind (arith, nat_tests) in omega arith

-- a batch ends before a later one begins
pub later_start : (batch later size : ℕ) → batch < later → batch * size + size ≤ later * size
later_start batch later size lt =
    let m = mul-le-mul_right {m = suc batch} {n = later} size lt in
    omega arith

-- each batch begins before the end of the lines
pub starts_below : (batch count size lines : ℕ) → batch < count → count * size < lines + size → batch * size < lines
starts_below batch count size lines lt few = let l = later_start batch count size lt in omega arith

-- where all of its batches were given out, a drawer takes one more
pub one_more : (size lines n batch : ℕ) (batches : List ℕ) (old next end : ℕ) → end ≤ next → next ≤ end → old + within next end n ≡ batched size lines n batches
    → old + within (batch * size) (min (batch * size + size) lines) n ≡ batched size lines n (batches ++ batch ∷ [])
one_more size lines n batch batches old next end le ge each =
    let none : within next end n ≡ 0 = omega arith in
    let t = total_append (λ (b : ℕ). within (b * size) (min (b * size + size) lines) n) batches (batch ∷ []) in
    let e : old ≡ batched size lines n batches = sym (ap (λ (k : ℕ). old + k) none ∙ zero_last old) ∙ each in
    ends old (batched size lines n batches) (batched size lines n (batches ++ batch ∷ [])) (within (batch * size) (min (batch * size + size) lines) n) e t
  where
    zero_last : (k : ℕ) → k + 0 ≡ k
    zero_last k = omega arith

    ends : (a b c w : ℕ) → a ≡ b → c ≡ b + (w + 0) → a + w ≡ c
    ends a b c w e t = omega arith

module _ (size lines n : ℕ) (some : 1 ≤ size) where
  quotient_low : n / size * size ≤ n
  quotient_low = div-mul-le_self n size

  quotient_high : n < n / size * size + size
  quotient_high = lt-div-mul-add some

  -- a line's number is in the batch of its quotient
  in_batch : n < lines → (batch : ℕ) (b : Bool) → (batch == n / size) ≡ b → within (batch * size) (min (batch * size + size) lines) n ≡ one_if b
  in_batch lt batch true is =
      let at : batch ≡ n / size = grind (arith, nat_tests) in
      let e : batch * size ≡ n / size * size = ap (λ (k : ℕ). k * size) at in
      let low = quotient_low in
      let high = quotient_high in
      omega arith
  in_batch lt batch false is = split (dec_lt batch (n / size))
    where
      split : Dec (batch < n / size) → within (batch * size) (min (batch * size + size) lines) n ≡ 0
      split (yes d) =
          let l = later_start batch (n / size) size d in
          let low = quotient_low in
          omega arith
      split (no d) =
          let above : n / size < batch = grind (arith, nat_tests) in
          let l = later_start (n / size) batch size above in
          let high = quotient_high in
          omega arith

  batched_times : n < lines → (batches : List ℕ) → batched size lines n batches ≡ times (n / size) batches
  batched_times lt [] = refl
  batched_times lt (x ∷ xs) =
      let a = in_batch lt x (x == n / size) refl in
      let b = batched_times lt xs in
      omega arith

  batched_none : lines ≤ n → (batches : List ℕ) → batched size lines n batches ≡ 0
  batched_none le [] = refl
  batched_none le (x ∷ xs) = let b = batched_none le xs in omega arith

-- ---- all drawers, at closing

-- a drawer of these batches that was told that there are no more
abbrev pub IsDone : ℕ → ℕ → BatchDrawer → Type 0
IsDone lines size d = ((d.lines ≡ lines) × (d.size ≡ size)) × (is_done d ≡ true)

module _ (lines size : ℕ) (some : 1 ≤ size) where
  -- it has given out all of its batches
  given_all : (n : ℕ) (d : BatchDrawer) → IsDone lines size d → times n (given d) ≡ batched size lines n (drawn d.drawer)
  given_all n d h =
      let at = d.told h.1 in
      let e : times n (given d) + within d.next d.end n ≡ batched size lines n (drawn d.drawer) =
      subst (λ (k : ℕ). times n (given d) + within d.next d.end n ≡ batched size k n (drawn d.drawer)) h.0.0
      (subst (λ (k : ℕ). times n (given d) + within d.next d.end n ≡ batched k d.lines n (drawn d.drawer)) h.0.1 (d.each n)) in
      omega arith

  given_in : (n : ℕ) → n < lines → (ds : List BatchDrawer) → All (IsDone lines size) ds
      → total (λ d. times n (given d)) ds ≡ total (λ d. times (n / size) (drawn d)) (map (λ d. d.drawer) ds)
  given_in n lt [] all = refl
  given_in n lt (d ∷ ds) all =
      let a = given_all n d (all 0 d (omega arith)) in
      let b = batched_times size lines n some lt (drawn d.drawer) in
      let c = given_in n lt ds (λ k x h. all (suc k) x (omega arith)) in
      omega arith

  given_none : (n : ℕ) → lines ≤ n → (ds : List BatchDrawer) → All (IsDone lines size) ds → total (λ d. times n (given d)) ds ≡ 0
  given_none n le [] all = refl
  given_none n le (d ∷ ds) all =
      let a = given_all n d (all 0 d (omega arith)) in
      let b = batched_none size lines n some le (drawn d.drawer) in
      let c = given_none n le ds (λ k x h. all (suc k) x (omega arith)) in
      omega arith

  -- where each batch was drawn once, each number was given out once
  pub given_once : (count : ℕ) → lines ≤ count * size → (ds : List BatchDrawer) → All (IsDone lines size) ds
      → ((q : ℕ) → IsDrawnOnce count q (total (λ d. times q (drawn d)) (map (λ d. d.drawer) ds))) → (n : ℕ)
      → IsDrawnOnce lines n (total (λ d. times n (given d)) ds)
  given_once count enough ds all once n = record {
    drawn = λ lt. given_in n lt ds all ∙ (once (n / size)).drawn ((div-lt_iff_lt-mul some).1 (omega arith));
    left = λ le. given_none n le ds all;
  }

-- some drawer was told that there are no more
pub told_some : (lines size result count : ℕ) (ds : List BatchDrawer) → 1 ≤ length ds → All (IsDone lines size) ds
    → All (λ (d : Drawer). is_told d ≡ true → result ≡ count) (map (λ d. d.drawer) ds) → result ≡ count
told_some lines size result count [] n all whole = absurd (omega arith)
told_some lines size result count (d ∷ ds) n all whole = whole 0 d.drawer (omega arith) (all 0 d (omega arith)).1

-- what holds of each drawer with batches holds of each without
pub all_singles : (P : Drawer → Type 0) (ds : List BatchDrawer) → All (λ d. P d.drawer) ds → All P (map (λ d. d.drawer) ds)
all_singles P [] all k x lt = absurd (omega arith)
all_singles P (d ∷ ds) all zero x lt = all 0 d (omega arith)
all_singles P (d ∷ ds) all (suc k) x lt = all_singles P ds (λ i y h. all (suc i) y (omega arith)) k x (omega arith)
