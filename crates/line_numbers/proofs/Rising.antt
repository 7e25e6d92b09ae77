-- Numbers that are drawn once, with one number more.
use Rattle.std.proofs.Common.{◌≡◌, ◌≢◌, ℕ, ◌+◌, ◌<◌, ◌==◌, List, ◌++◌, Bool, true, false, arith, min}
use Rattle.std.proofs.lemmas.Bool.Decides.{nat_tests}
use Rattle.rate_types.specs.Sums.{one_if, times}
use Rattle.rate_types.proofs.Sums.{total_append}
use Rattle.line_numbers.specs.Rising.{IsDrawnOnce}

pub times_append : (n : ℕ) (xs ys : List ℕ) → times n (xs ++ ys) ≡ times n xs + times n ys
times_append n xs ys = total_append (λ x. one_if (x == n)) xs ys

-- the next number is drawn
pub once_more : (asked lines n old : ℕ) (b : Bool) → (asked == n) ≡ b → asked < lines → IsDrawnOnce (min asked lines) n old
    → IsDrawnOnce (min (asked + 1) lines) n (old + (one_if b + 0))
once_more asked lines n old true is lt r =
    let at : asked ≡ n = grind (arith, nat_tests) in
    let e : old ≡ 0 = r.left (omega arith) in
    record { drawn = λ h. omega arith; left = λ h. absurd (omega arith) }
once_more asked lines n old false is lt r =
    let off : asked ≢ n = grind (arith, nat_tests) in
    record { drawn = λ h. let e = r.drawn (omega arith) in omega arith; left = λ h. let e = r.left (omega arith) in omega arith }
