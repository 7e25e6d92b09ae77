-- Laws of sums over the numbers below a bound.
use Rattle.std.proofs.Common.{◌≡◌, ℕ, zero, suc, ◌+◌, ◌≤◌, ◌<◌, ◌==◌, Bool, true, false, refl, ap, arith}
use Rattle.std.proofs.lemmas.Bool.Decides.{nat_tests}
use Rattle.load_gen.specs.Sums.{sum_below}

-- sums with equal parts are equal
pub sum_same : (n : ℕ) (f g : ℕ → ℕ) → ((i : ℕ) → i < n → f i ≡ g i) → sum_below n f ≡ sum_below n g
unfolding sum_below
sum_same zero f g h = refl
sum_same (suc n) f g h =
    let rest = sum_same n f g (λ i low. h i (omega arith)) in let last = h n (omega arith) in omega (arith, rest, last)

-- the sum of sums
pub sum_plus : (n : ℕ) (f g : ℕ → ℕ) → sum_below n (λ i. f i + g i) ≡ sum_below n f + sum_below n g
unfolding sum_below
sum_plus zero f g = refl
sum_plus (suc n) f g = let rest = sum_plus n f g in omega (arith, rest)

-- parts of 0
pub sum_none : (n : ℕ) (f : ℕ → ℕ) → ((i : ℕ) → i < n → f i ≡ 0) → sum_below n f ≡ 0
unfolding sum_below
sum_none zero f h = refl
sum_none (suc n) f h =
    let rest = sum_none n f (λ i low. h i (omega arith)) in let last = h n (omega arith) in omega (arith, rest, last)

-- one part alone
pub sum_alone : (n v : ℕ) (f : ℕ → ℕ) → v < n → ((i : ℕ) → i < n → (i == v) ≡ false → f i ≡ 0) → sum_below n f ≡ f v
unfolding sum_below
sum_alone zero v f low h = absurd (omega arith)
sum_alone (suc n) v f low h = by (λ small. sum_alone n v f small (λ i less no. h i (omega arith) no)) (n == v) refl
  where
    by : (v < n → sum_below n f ≡ f v) → (same : Bool) → (n == v) ≡ same → sum_below n f + f n ≡ f v
    by rest true e =
        let is : n ≡ v = grind (arith, nat_tests) in
        let at : f n ≡ f v = ap f is in
        let none = sum_none n f (λ i small. h i (omega arith) (let no : (i == v) ≡ false = grind (arith, nat_tests) in no)) in
        omega (arith, at, none)
    by rest false e =
        let small : v < n = grind (arith, nat_tests) in
        let first = rest small in
        let last = h n (omega arith) e in
        omega (arith, first, last)

-- a sum is no less than one of its parts
pub sum_part : (n v : ℕ) (f : ℕ → ℕ) → v < n → f v ≤ sum_below n f
unfolding sum_below
sum_part zero v f low = absurd (omega arith)
sum_part (suc n) v f low = by (sum_part n v f) (n == v) refl
  where
    by : (v < n → f v ≤ sum_below n f) → (same : Bool) → (n == v) ≡ same → f v ≤ sum_below n f + f n
    by rest true e = let is : n ≡ v = grind (arith, nat_tests) in let at : f n ≡ f v = ap f is in omega (arith, at)
    by rest false e = let small : v < n = grind (arith, nat_tests) in let first = rest small in omega (arith, first)

-- parts of at most 1
pub sum_few : (n : ℕ) (f : ℕ → ℕ) → ((i : ℕ) → i < n → f i ≤ 1) → sum_below n f ≤ n
unfolding sum_below
sum_few zero f h = omega arith
sum_few (suc n) f h = let rest = sum_few n f (λ i low. h i (omega arith)) in let last = h n (omega arith) in omega (arith, rest, last)
