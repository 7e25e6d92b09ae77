-- The first line feed, as a search for its byte finds it.
use Rattle.std.proofs.Common.{◌≡◌, ℕ, Bool, true, false, List, length, Option, Some, None, refl, arith, lt-ltb}
use Rattle.std.proofs.lemmas.Bool.Decides.{nat_tests}
use Rattle.std.proofs.lemmas.List.Sums.{position_or_len_is}
use Rattle.std.specs.List.{position, position_or_len}
use Rattle.memchr.specs.Find.{IsFirstByte}

fails : (b : Bool) → ¬ (b ≡ true) → b ≡ false
fails true never = absurd (never refl)
fails false never = refl

-- the first place whose byte passes a test, or none
pub first_byte : (test : ℕ → Bool) (bs : List ℕ) (at : Option ℕ) → IsFirstByte test bs at → at ≡ position test bs
first_byte test bs None nowhere =
    let whole : position_or_len test bs ≡ length bs =
    position_or_len_is test bs (length bs) 0 (omega arith) (λ k lt. fails _ (nowhere k (omega arith) lt)) (λ lt. absurd (omega arith)) in
    grind (arith, nat_tests)
first_byte test bs (Some k) (none, passes) =
    let at : position_or_len test bs ≡ k =
    position_or_len_is test bs k 0 (omega (arith, none.high)) (λ j lt. fails _ (none.before j (omega arith) lt)) (λ lt. passes) in
    rw (at, lt-ltb k (length bs) none.high) refl
