-- How many cells are bound to windows that haven't ended, and how many claims are of such windows.
use Rattle.std.proofs.Common.{◌≡◌, ℕ, zero, suc, ◌+◌, ◌≤◌, ◌<◌, ◌==◌, ◌&&◌, List, [], ◌∷◌, ◌++◌, length, map, filter, Bool, true, false, cond, refl, sym, ap, ◌∙◌}
use Rattle.std.proofs.Common.{subst, arith, append_assoc, eq-eqb, ne_eqb}
use Rattle.std.proofs.lemmas.Bool.{le-ltb, eqb-true}
use Rattle.std.proofs.lemmas.List.{append-nil}
use Rattle.std.specs.Prelude.{nat_lt, take}
use native.Mathlib.Decide.{ℕ_discrete, dec_le}
use mathlib.Core.Option.{some}
use lib.ListN.{get_elem?}
use Rattle.rate_types.specs.Sums.{total, one_if}
use Rattle.rate_types.proofs.Sums.{total_push}
use Rattle.rate_types.specs.declared.counter_key.CounterKey.{CounterKey}
use Rattle.window_keys.specs.Counter.{window_end_of}
use Rattle.counter_directory.specs.declared.claim.Claim.{Claim}
use Rattle.counter_directory.specs.Claims.{claims_of, end_of, last_end, live_below, Fits, IsLawfulClaims}
use Rattle.rate_limiter.proofs.CounterLists.{count}

-- the counters of claims
abbrev pub keys_in : List Claim → List CounterKey
keys_in claims = map (λ x. x.key) claims

pub keys_count : (c : CounterKey) (claims : List Claim) → count c (keys_in claims) ≡ claims_of c claims
keys_count c [] = refl
keys_count c (x ∷ xs) = let r = keys_count c xs in omega arith

-- those whose windows end after a moment
abbrev pub open_in : ℕ → List Claim → List CounterKey
open_in m claims = filter (λ c. nat_lt m (window_end_of c)) (keys_in claims)

module _ (m : ℕ) where
  abbrev is_open : Claim → Bool
  is_open x = nat_lt m (end_of x)

  open_length : (xs : List Claim) → length (open_in m xs) ≡ total (λ x. one_if (is_open x)) xs
  open_length [] = refl
  open_length (x ∷ xs) = by (is_open x) (open_length xs)
    where
      by : (b : Bool) → length (open_in m xs) ≡ total (λ y. one_if (is_open y)) xs
          → length (cond b (x.key ∷ open_in m xs) (open_in m xs)) ≡ one_if b + total (λ y. one_if (is_open y)) xs
      by true r = omega arith
      by false r = omega arith

  -- the open claims on a cell
  abbrev open_on : ℕ → List Claim → ℕ
  open_on cell xs = total (λ x. one_if ((x.cell == cell) && is_open x)) xs

  last_open : (d cell : ℕ) (xs : List Claim) → one_if (nat_lt m (last_end d cell xs)) ≤ one_if (nat_lt m d) + open_on cell xs
  last_open d cell [] = omega arith
  last_open d cell (x ∷ xs) = by (x.cell == cell) (λ e. last_open e cell xs)
    where
      by : (b : Bool) → ((e : ℕ) → one_if (nat_lt m (last_end e cell xs)) ≤ one_if (nat_lt m e) + open_on cell xs)
          → one_if (nat_lt m (last_end (cond b (end_of x) d) cell xs)) ≤ one_if (nat_lt m d) + (one_if (b && is_open x) + open_on cell xs)
      by true r = let a = r (end_of x) in omega arith
      by false r = let a = r d in omega arith

  -- ---- over all cells

  abbrev sum_below : ℕ → (ℕ → ℕ) → ℕ
  sum_below zero f = 0
  sum_below (suc n) f = f n + sum_below n f

  below_le : (n : ℕ) (f g : ℕ → ℕ) → ((k : ℕ) → f k ≤ g k) → sum_below n f ≤ sum_below n g
  below_le zero f g h = omega arith
  below_le (suc n) f g h = let a = h n in let r = below_le n f g h in omega arith

  below_add : (n : ℕ) (f g : ℕ → ℕ) → sum_below n (λ k. f k + g k) ≡ sum_below n f + sum_below n g
  below_add zero f g = refl
  below_add (suc n) f g = let r = below_add n f g in omega arith

  live_sum : (n : ℕ) (xs : List Claim) → live_below n m xs ≡ sum_below n (λ c. one_if (nat_lt m (last_end 0 c xs)))
  live_sum zero xs = refl
  live_sum (suc n) xs = let r = live_sum n xs in omega arith

  beyond : (n a : ℕ) (t : Bool) → n ≤ a → sum_below n (λ c. one_if ((a == c) && t)) ≡ 0
  beyond zero a t h = refl
  beyond (suc n) a t h =
      let other : (a == n) ≡ false = ne_eqb a n (λ e. omega arith) in
      let o = ap (λ b. one_if (b && t)) other in
      let r = beyond n a t (omega arith) in
      omega arith

  at_one : (n a : ℕ) (t : Bool) → a < n → sum_below n (λ c. one_if ((a == c) && t)) ≡ one_if t
  at_one zero a t h = absurd (omega arith)
  at_one (suc n) a t h = pick (ℕ_discrete a n) (λ l. at_one n a t l)
    where
      pick : Dec (a ≡ n) → (a < n → sum_below n (λ c. one_if ((a == c) && t)) ≡ one_if t) → one_if ((a == n) && t) + sum_below n (λ c. one_if ((a == c) && t)) ≡ one_if t
      pick (yes e) more = let o = ap (λ b. one_if (b && t)) (eq-eqb a n e) in let r = beyond n a t (omega arith) in omega arith
      pick (no ne) more =
          let o = ap (λ b. one_if (b && t)) (ne_eqb a n ne) in
          let r = more (pick_lt (dec_le (suc a) n)) in
          omega arith
        where
          pick_lt : Dec (suc a ≤ n) → a < n
          pick_lt (yes l) = omega arith
          pick_lt (no l) = absurd (ne (omega arith))

  one_of : (n a : ℕ) (t : Bool) → sum_below n (λ c. one_if ((a == c) && t)) ≤ one_if t
  one_of n a t = pick (dec_le n a)
    where
      pick : Dec (n ≤ a) → sum_below n (λ c. one_if ((a == c) && t)) ≤ one_if t
      pick (yes h) = let r = beyond n a t h in omega arith
      pick (no h) = let r = at_one n a t (omega arith) in omega arith

  all_le : (n : ℕ) (xs : List Claim) → sum_below n (λ c. open_on c xs) ≤ total (λ x. one_if (is_open x)) xs
  all_le n [] = none n
    where
      none : (k : ℕ) → sum_below k (λ c. 0) ≤ 0
      none zero = omega arith
      none (suc k) = let r = none k in omega arith
  all_le n (x ∷ xs) =
      let a = below_add n (λ c. one_if ((x.cell == c) && is_open x)) (λ c. open_on c xs) in
      let o = one_of n x.cell (is_open x) in
      let r = all_le n xs in
      omega arith

  all_eq : (n : ℕ) (xs : List Claim) → ((i : ℕ) (x : Claim) → get_elem? xs i ≡ some x → x.cell < n) → sum_below n (λ c. open_on c xs) ≡ total (λ x. one_if (is_open x)) xs
  all_eq n [] h = none n
    where
      none : (k : ℕ) → sum_below k (λ c. 0) ≡ 0
      none zero = refl
      none (suc k) = let r = none k in omega arith
  all_eq n (x ∷ xs) h =
      let a = below_add n (λ c. one_if ((x.cell == c) && is_open x)) (λ c. open_on c xs) in
      let o = at_one n x.cell (is_open x) (h 0 x refl) in
      let r = all_eq n xs (λ i y e. h (suc i) y e) in
      omega arith

  -- a live cell has an open claim
  pub live_few : (n : ℕ) (xs : List Claim) → live_below n m xs ≤ length (open_in m xs)
  live_few n xs =
      let closed : one_if (nat_lt m 0) ≡ 0 = ap one_if (le-ltb m 0 (omega arith)) in
      let a = live_sum n xs in
      let b = below_le n (λ c. one_if (nat_lt m (last_end 0 c xs))) (λ c. open_on c xs) (λ c. let l = last_open 0 c xs in omega arith) in
      let d = all_le n xs in
      let e = open_length xs in
      omega arith

  -- ---- where all claims were made up to the moment, no cell has two open ones

  last_push : (d cell : ℕ) (xs : List Claim) (x : Claim) → last_end d cell (xs ++ x ∷ []) ≡ cond (x.cell == cell) (end_of x) (last_end d cell xs)
  last_push d cell [] x = refl
  last_push d cell (y ∷ ys) x = last_push (cond (y.cell == cell) (end_of y) d) cell ys x

  abbrev IsLast : ℕ → List Claim → Type 0
  IsLast cell xs = open_on cell xs ≡ one_if (nat_lt m (last_end 0 cell xs))

  one_last : (cells most cell : ℕ) (xs : List Claim) (x : Claim) → Fits cells most xs x → x.moment ≤ m → IsLast cell xs → IsLast cell (xs ++ x ∷ [])
  one_last cells most cell xs x fits early h =
      total_push (λ (y : Claim). one_if ((y.cell == cell) && is_open y)) xs x ∙ by (x.cell == cell) refl ∙ sym (ap (λ n. one_if (nat_lt m n)) (last_push 0 cell xs x))
    where
      by : (b : Bool) → (x.cell == cell) ≡ b → open_on cell xs + one_if (b && is_open x) ≡ one_if (nat_lt m (cond b (end_of x) (last_end 0 cell xs)))
      by true e =
          let same : x.cell ≡ cell = eqb-true x.cell cell e in
          let over = fits.expired in
          let at = ap (λ n. last_end 0 n xs) same in
          let shut : one_if (nat_lt m (last_end 0 cell xs)) ≡ 0 = ap one_if (le-ltb m (last_end 0 cell xs) (omega arith)) in
          omega arith
      by false e = omega arith

  last_of_all : (cells most cell : ℕ) (before xs : List Claim)
      → ((i : ℕ) (x : Claim) → get_elem? xs i ≡ some x → Fits cells most (before ++ take i xs) x × (x.moment ≤ m)) → IsLast cell before
      → IsLast cell (before ++ xs)
  last_of_all cells most cell before [] h l = subst (IsLast cell) (sym (append-nil before)) l
  last_of_all cells most cell before (x ∷ xs) h l =
      let f = h 0 x refl in
      subst (IsLast cell) (append_assoc before (x ∷ []) xs)
      (last_of_all cells most cell (before ++ x ∷ []) xs
      (λ i y e.
      let g = h (suc i) y e in
      (subst (λ (l : List Claim). Fits cells most l y) (sym (append_assoc before (x ∷ []) (take i xs))) g.0, g.1))
      (one_last cells most cell before x (subst (λ (l : List Claim). Fits cells most l x) (append-nil before) f.0) f.1 l))

  -- there are as many live cells as open claims
  pub live_all : (cells most : ℕ) (xs : List Claim) → IsLawfulClaims cells most xs → ((i : ℕ) (x : Claim) → get_elem? xs i ≡ some x → x.moment ≤ m)
      → live_below cells m xs ≡ length (open_in m xs)
  live_all cells most xs lawful early =
      let a = live_sum cells xs in
      let none : (c : ℕ) → IsLast c [] = λ c. sym (ap one_if (le-ltb m 0 (omega arith))) in
      let b = below_same cells (λ c. one_if (nat_lt m (last_end 0 c xs))) (λ c. open_on c xs)
      (λ c. sym (last_of_all cells most c [] xs (λ i x e. (lawful i x e, early i x e)) (none c))) in
      let d = all_eq cells xs (λ i x e. (lawful i x e).cell) in
      let e = open_length xs in
      omega arith
    where
      below_same : (n : ℕ) (f g : ℕ → ℕ) → ((k : ℕ) → f k ≡ g k) → sum_below n f ≡ sum_below n g
      below_same zero f g h = refl
      below_same (suc n) f g h = let a = h n in let r = below_same n f g h in omega arith

  -- and no more than cells
  pub live_most : (n : ℕ) (xs : List Claim) → live_below n m xs ≤ n
  live_most zero xs = omega arith
  live_most (suc n) xs = by (nat_lt m (last_end 0 n xs)) (live_most n xs)
    where
      by : (b : Bool) → live_below n m xs ≤ n → one_if b + live_below n m xs ≤ suc n
      by true r = omega arith
      by false r = omega arith
