-- What is kept of counts as the oldest ends and a new one begins.
use Rattle.std.proofs.Common.{◌≡◌, ℕ, zero, suc, ◌≤◌, ◌<◌, ◌&&◌, ◌==◌, if◌then◌else◌, Bool, true, false, List, [], ◌∷◌, ◌++◌, refl, ap, sym, ◌∙◌, arith, max, nat_lt, length}
use Rattle.std.specs.Prelude.{Option, Some, None, slice_index_or}
use Rattle.std.specs.Option.{option_to_list}
use Rattle.std.proofs.lemmas.List.{append-nil}
use Rattle.std.proofs.lemmas.Bool.Decides.{nat_tests}
use Rattle.quota_server.specs.Shares.{greatest}
use Rattle.quota_server.specs.Holds.{is_none_of, first_of, skyline, after_end, without_smaller, after_begin, ends_below}

-- the first that is kept is the greatest
pub first_is_greatest : (ns : List ℕ) → first_of (skyline ns) ≡ greatest ns
first_is_greatest [] = refl
first_is_greatest (n ∷ ns) = by (first_is_greatest ns) (nat_lt n (greatest ns)) refl
  where
    by : first_of (skyline ns) ≡ greatest ns → (less : Bool) → nat_lt n (greatest ns) ≡ less → first_of (skyline (n ∷ ns)) ≡ greatest (n ∷ ns)
    by rest true less = rw less (let lt : n < greatest ns = grind (arith, nat_tests) in omega (arith, rest, lt))
    by rest false less = rw less (let le : greatest ns ≤ n = grind (arith, nat_tests) in omega (arith, le))

-- the oldest ends
pub ends : (n : ℕ) (ns : List ℕ) → after_end n (skyline (n ∷ ns)) ≡ skyline ns
ends n ns = by (nat_lt n (greatest ns)) refl
  where
    other : (ms : List ℕ) → n < first_of ms → after_end n ms ≡ ms
    other [] lt = refl
    other (m ∷ ms) lt = let apart : (m == n) ≡ false = grind (arith, nat_tests) in rw apart refl

    by : (less : Bool) → nat_lt n (greatest ns) ≡ less → after_end n (skyline (n ∷ ns)) ≡ skyline ns
    by true less =
        let lt : n < greatest ns = grind (arith, nat_tests) in
        let first = first_is_greatest ns in
        rw less (other (skyline ns) (omega (arith, lt, first)))
    by false less = let same : (n == n) ≡ true = grind (arith, nat_tests) in rw (less, same) refl

greatest_more : (ns : List ℕ) (n : ℕ) → greatest (ns ++ n ∷ []) ≡ max (greatest ns) n
greatest_more [] n = omega arith
greatest_more (m ∷ ms) n = let rest = greatest_more ms n in omega (arith, rest)

-- all that is kept is at most the greatest
all_smaller : (ns : List ℕ) (n : ℕ) → greatest ns < n → without_smaller n (skyline ns) ≡ []
all_smaller [] n lt = refl
all_smaller (m ∷ ms) n lt = by (all_smaller ms n) (nat_lt m (greatest ms)) refl
  where
    by : (greatest ms < n → without_smaller n (skyline ms) ≡ []) → (less : Bool) → nat_lt m (greatest ms) ≡ less
        → without_smaller n (skyline (m ∷ ms)) ≡ []
    by rest true less = rw less (rest (omega (arith, lt)))
    by rest false less =
        let none = rest (omega (arith, lt)) in
        let small : nat_lt m n ≡ true = (let lt2 : m < n = omega (arith, lt) in grind (arith, nat_tests)) in
        rw (less, small, none) refl

-- a new one begins
pub begins : (ns : List ℕ) (n : ℕ) → skyline (ns ++ n ∷ []) ≡ after_begin n (skyline ns)
begins [] n = let none : nat_lt n 0 ≡ false = grind (arith, nat_tests) in rw none refl
begins (m ∷ ms) n = by (begins ms n) (greatest_more ms n) (nat_lt m (greatest (ms ++ n ∷ []))) refl (nat_lt m (greatest ms)) refl (nat_lt m n) refl
  where
    by : skyline (ms ++ n ∷ []) ≡ after_begin n (skyline ms) → greatest (ms ++ n ∷ []) ≡ max (greatest ms) n
        → (after : Bool) → nat_lt m (greatest (ms ++ n ∷ [])) ≡ after → (before : Bool) → nat_lt m (greatest ms) ≡ before
        → (small : Bool) → nat_lt m n ≡ small → skyline (m ∷ ms ++ n ∷ []) ≡ after_begin n (skyline (m ∷ ms))
    by rest most true after true before small is_small = rw (after, before) rest
    by rest most true after false before true small =
        let lt : greatest ms < n = grind (arith, nat_tests) in
        let none = all_smaller ms n lt in
        rw (after, before, small, none) (rest ∙ ap (λ xs. xs ++ n ∷ []) none)
    by rest most true after false before false small = absurd (grind (arith, nat_tests))
    by rest most false after true before small is_small = absurd (grind (arith, nat_tests))
    by rest most false after false before true small = absurd (grind (arith, nat_tests))
    by rest most false after false before false small = rw (after, before, small) (ap (λ xs. m ∷ xs) rest)

-- ---- the loop that takes away the last ones

-- the last one is smaller
last_smaller : (ns : List ℕ) (m n : ℕ) → nat_lt m n ≡ true → without_smaller n (ns ++ m ∷ []) ≡ without_smaller n ns
last_smaller [] m n small = rw small refl
last_smaller (k ∷ ks) m n small = ap (λ xs. if_kept xs) (last_smaller ks m n small)
  where
    if_kept : List ℕ → List ℕ
    if_kept xs = if nat_lt k n && is_none_of xs then [] else k ∷ xs

last_below : (ns : List ℕ) (m n : ℕ) → ends_below n (ns ++ m ∷ []) ≡ nat_lt m n
last_below [] m n = refl
last_below (k ∷ []) m n = refl
last_below (k ∷ j ∷ js) m n = last_below (j ∷ js) m n

-- the last one was below, and is taken away
pub popped : (n : ℕ) (xs ys : List ℕ) (z : Option ℕ) → ends_below n xs ≡ true → xs ≡ ys ++ option_to_list z
    → without_smaller n ys ≡ without_smaller n xs
popped n xs ys None below is = ap (without_smaller n) (sym (is ∙ append-nil ys))
popped n xs ys (Some m) below is =
    let small : nat_lt m n ≡ true = sym (last_below ys m n) ∙ ap (ends_below n) (sym is) ∙ below in
    sym (ap (without_smaller n) is ∙ last_smaller ys m n small)

-- no last one is below
pub none_below : (n : ℕ) (xs : List ℕ) → ends_below n xs ≡ false → without_smaller n xs ≡ xs
none_below n [] above = refl
none_below n (m ∷ []) above = rw above refl
none_below n (m ∷ k ∷ ms) above = by (nat_lt m n) (none_below n (k ∷ ms) above)
  where
    by : (b : Bool) → without_smaller n (k ∷ ms) ≡ k ∷ ms
        → (if b && is_none_of (without_smaller n (k ∷ ms)) then [] else m ∷ without_smaller n (k ∷ ms)) ≡ m ∷ k ∷ ms
    by true rest = rw rest refl
    by false rest = ap (λ xs. m ∷ xs) rest

-- the last one by its place
pub below_at : (xs : List ℕ) (n l i : ℕ) → suc i ≡ length xs → l ≡ slice_index_or xs i l → ends_below n xs ≡ nat_lt l n
below_at [] n l i last is = absurd (omega (arith, last))
below_at (m ∷ []) n l zero last is = ap (λ k. nat_lt k n) (sym is)
below_at (m ∷ []) n l (suc i) last is = absurd (omega (arith, last))
below_at (m ∷ k ∷ ms) n l zero last is = absurd (omega (arith, last))
below_at (m ∷ k ∷ ms) n l (suc i) last is = below_at (k ∷ ms) n l i (omega (arith, last)) is
