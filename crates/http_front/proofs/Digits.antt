-- How large a number of so many digits is.
use Rattle.std.proofs.Common.{◌≡◌, ℕ, suc, ◌+◌, ◌*◌, ◌-◌, ◌^◌, ◌<◌, ◌≤◌, Bool, true, List, ◌∷◌, arith}
use Rattle.std.specs.List.{list_all}
use Rattle.std.proofs.Math.Nat.{pow-suc, pow-le-pow_right}

-- one digit more
pub one_more : (count left digit : ℕ) → left < 10 → count < 10 ^ (10 - (left + 1)) → digit ≤ 9 → count * 10 + digit < 10 ^ (10 - left)
one_more count left digit few below small =
    let more : 10 - left ≡ suc (10 - (left + 1)) = omega arith in
    rw more (rw pow-suc (omega arith))

-- it fits 64 bits
pub below_most : (count left : ℕ) → count < 10 ^ (10 - left) → count < 10 ^ 10
below_most count left below =
    let base : 0 < 10 = omega arith in let less : 10 - left ≤ 10 = omega arith in
    let most : 10 ^ (10 - left) ≤ 10 ^ 10 = pow-le-pow_right {n = 10} base {i = 10 - left} {j = 10} less in omega arith

pub some_power : (left : ℕ) → 0 < 10 ^ left
some_power left =
    let base : 0 < 10 = omega arith in let less : 0 ≤ left = omega arith in let one : 10 ^ 0 ≤ 10 ^ left = pow-le-pow_right {n = 10} base {i = 0} {j = left} less in omega arith

-- after a byte that passes, the test of the rest is that of all
pub all_more : (p : ℕ → Bool) (d : ℕ) (ds : List ℕ) (t : Bool) → list_all p (d ∷ ds) ≡ t → p d ≡ true → list_all p ds ≡ t
all_more p d ds t all passes = rw passes at all
